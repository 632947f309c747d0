-- The header Authorization (RFC 3261 section 20.7).
use Rattle.std.specs.Prelude.{◌≡◌, ℕ, Bool, false, ◌&&◌, nat_lt, if◌then◌else◌, List, find, count_by, Option, Some, None, Ok, bytes_eq, codes}
use Rattle.std.specs.Str.{str_eq_ignore_ascii_case}
use Rattle.sip_text.specs.Reading.{◌>>=◌, text_of}
use Rattle.sip_read.specs.LinesComputed.{line_at, header_of, lines_of}
use Rattle.digest.specs.declared.credentials.Credentials.{Credentials}
use Rattle.digest.specs.Credentials.{Says}
use Rattle.digest.specs.Reading.{realm_said}
use Rattle.admission.specs.declared.shown.Shown.{Shown}
use Rattle.admission.specs.declared.shown.Shown.TheVariants as shown

abbrev pub is_named : Option (List ℕ × List ℕ) → Bool
is_named None = false
is_named (Some header) = str_eq_ignore_ascii_case header.0 (codes "authorization")

-- the line is one of Authorization, whose name ignores case
abbrev pub is_authorization : List ℕ → Bool
is_authorization line = is_named (header_of line)

-- the value of a line names this realm
abbrev pub is_realm : List ℕ → Option (List ℕ) → Bool
is_realm own None = false
is_realm own (Some realm) = bytes_eq own realm

abbrev pub realm_named : Option (List ℕ × List ℕ) → Option (List ℕ)
realm_named None = None
realm_named (Some header) = realm_said header.1

-- the line is one of Authorization that names this realm
abbrev pub is_of_realm : List ℕ → List ℕ → Bool
is_of_realm own line = is_authorization line && is_realm own (realm_named (header_of line))

abbrev pub or_else : Option (List ℕ) → Option (List ℕ) → Option (List ℕ)
or_else None other = other
or_else (Some line) other = Some line

-- the line that counts: where several stand the first of our realm, or where none is of it, and where one stands, the first (section 22.3)
abbrev pub own_line : Option (List ℕ) → List (List ℕ) → Option (List ℕ)
own_line None lines = find is_authorization lines
own_line (Some own) lines =
    if nat_lt 1 (count_by is_authorization lines) then or_else (find (is_of_realm own) lines) (find is_authorization lines)
    else find is_authorization lines

-- its value, among the header lines behind the first line, those that are continued in one piece
unfoldable pub authorization : Option (List ℕ) → List ℕ → Option (List ℕ)
authorization realm octets = do
  first ← line_at octets
  lines ← lines_of first.1
  line ← own_line realm lines.0
  header ← header_of line
  text_of header.1

-- it shows these credentials, where this is our realm
pub record Shows (realm : Option (List ℕ)) (octets : List ℕ) (c : Credentials) : Type 0 where
  pub text : List ℕ
  pub stands : authorization realm octets ≡ Some text
  pub says : Says text (Ok c)

-- it shows a text that isn't credentials
abbrev pub IsMalformed : Option (List ℕ) → List ℕ → Type 0
IsMalformed realm octets = (text : List ℕ) × (authorization realm octets ≡ Some text) × ((c : Credentials) → ¬ (Says text (Ok c)))

-- what a datagram shows
abbrev pub IsShown : Option (List ℕ) → List ℕ → Shown → Type 0
IsShown realm octets (shown.Credentials c) = Shows realm octets c
IsShown realm octets shown.Absent = authorization realm octets ≡ None
IsShown realm octets shown.Malformed = IsMalformed realm octets
