-- What is shown of any octets.
use Rattle.std.specs.Prelude.{◌≡◌, ℕ, ◌+◌, ◌*◌, ◌<◌, ◌≤◌, true, false, List, length}
use Rattle.std.specs.List.{AllByRecursion}
use Rattle.shown_text.specs.declared.shown.Manner.{Manner}
use Rattle.shown_text.specs.declared.shown.Manner.TheVariants as manner
use Rattle.shown_text.specs.Shown.{is_printable, is_blank_or_quote, shown}

-- octets, as each text has them
abbrev pub AreOctets : List ℕ → Type 0
AreOctets = AllByRecursion (λ octet. octet < 256)

-- it is printable ASCII
abbrev pub IsPrintable : Type 0
IsPrintable = (m : Manner) (most : ℕ) (octets : List ℕ) → AreOctets octets
    → AllByRecursion (λ octet. is_printable octet ≡ true) (shown m most octets)

-- one word has no blank and no quote
abbrev pub IsOneWord : Type 0
IsOneWord = (most : ℕ) (octets : List ℕ) → AreOctets octets
    → AllByRecursion (λ octet. is_blank_or_quote octet ≡ false) (shown manner.Word most octets)

-- no longer than so
abbrev pub IsShort : Type 0
IsShort = (m : Manner) (most : ℕ) (octets : List ℕ) → AreOctets octets → length (shown m most octets) ≤ 4 * most + 3
