-- Text that somebody else wrote, as it stands in a line for people.
use Rattle.std.specs.Prelude.{ℕ, ◌/◌, ◌%◌, Bool, false, not, ◌&&◌, ◌||◌, ◌==◌, nat_le, nat_lt, List, [], ◌∷◌, ◌++◌, length, take, codes, if◌then◌else◌}
use Rattle.std.specs.List.{flat_map}
use Rattle.std.specs.Fmt.{digits}
use Rattle.std.specs.Str.{byte}
use Rattle.shown_text.specs.declared.shown.Manner.{Manner}
use Rattle.shown_text.specs.declared.shown.Manner.TheVariants as manner
use Rattle.shown_text.specs.declared.shown.Shown.{Shown}

-- printable ASCII (RFC 20)
abbrev pub is_printable : ℕ → Bool
is_printable octet = nat_le 32 octet && nat_le octet 126

-- that, but no backslash
abbrev pub is_text : ℕ → Bool
is_text octet = is_printable octet && not (octet == byte "\\")

abbrev pub is_blank_or_quote : ℕ → Bool
is_blank_or_quote octet = (octet == byte " ") || (octet == byte "\"") || (octet == byte "'")

-- it is shown as it is
abbrev pub is_plain : Manner → ℕ → Bool
is_plain manner.Words octet = is_text octet
is_plain manner.Word octet = is_text octet && not (is_blank_or_quote octet)

-- two hex digits
abbrev pub hex : ℕ → List ℕ
hex octet = digits 16 false (octet / 16) ++ digits 16 false (octet % 16)

-- itself, or a backslash, `x` and two hex digits
abbrev pub shown_octet : Manner → ℕ → List ℕ
shown_octet m octet = if is_plain m octet then octet ∷ [] else codes "\\x" ++ hex octet

-- what stands for those behind the first `most`
abbrev pub dots : ℕ → List ℕ → List ℕ
dots most octets = if nat_lt most (length octets) then codes "..." else []

-- the first `most` octets so, and three dots where there are more
abbrev pub shown : Manner → ℕ → List ℕ → List ℕ
shown m most octets = flat_map (shown_octet m) (take most octets) ++ dots most octets

-- of a stranger
abbrev pub words : List ℕ → List ℕ
words = shown manner.Words 64

-- of a stranger, as one word
abbrev pub word : List ℕ → List ℕ
word = shown manner.Word 64

-- of the operator or the system
abbrev pub passage : List ℕ → List ℕ
passage = shown manner.Words 256

abbrev pub text : Shown → List ℕ
text s = shown s.manner s.most s.octets.now
