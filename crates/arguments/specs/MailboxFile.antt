-- A file that names mailboxes, line by line.
--
--   file = *(line LF) [line]
--   line = "" / "#" text / range / mailbox
--
-- A range, as 1000-1999, names each number from the first to the last, in as many digits. Digits, `-` and digits are never a mailbox's
-- name: where they are no range, as 1000-19999 and 1999-1000, the line is refused.
use Rattle.std.specs.Prelude.{◌≡◌, ℕ, true, false, List, [], ◌∷◌, ◌⊎◌}
use Rattle.std.specs.Str.{byte}
use Rattle.sip_text.specs.Reading.{begins}
use Rattle.arguments.specs.declared.error.OptionsError.{OptionsError}
use Rattle.arguments.specs.declared.error.OptionsError.TheVariants as error
use Rattle.arguments.specs.NumberRanges.{LooksLikeRange, IsNumberRange, IsFair, numerals}
use Rattle.arguments.specs.Settings.{IsMailbox}

-- it names nothing
abbrev pub IsBlank : List ℕ → Type 0
IsBlank line = (line ≡ []) ⊎ (begins (byte "#") line ≡ true)

-- it names a mailbox by its name
pub record IsName (line : List ℕ) : Type 0 where
  pub mailbox : IsMailbox line
  pub no_comment : begins (byte "#") line ≡ false
  pub no_range : ¬ (LooksLikeRange line)

-- it names these numbers
pub record IsRange (line : List ℕ) (names : List (List ℕ)) : Type 0 where
  pub width : ℕ
  pub first : ℕ
  pub last : ℕ
  pub range : IsNumberRange line width first last
  pub fair : IsFair first last
  pub numbers : names ≡ numerals width first last

-- the line names these, one behind the other
abbrev pub Names : List ℕ → List (List ℕ) → Type 0
Names line names = (IsBlank line × (names ≡ [])) ⊎ (IsName line × (names ≡ line ∷ [])) ⊎ IsRange line names

-- it is a range of no numbers, or of too many
pub record IsUnfair (line : List ℕ) : Type 0 where
  pub width : ℕ
  pub first : ℕ
  pub last : ℕ
  pub range : IsNumberRange line width first last
  pub unfair : ¬ (IsFair first last)

-- it looks like a range, but its numbers have not as many digits, or more than 18
pub record IsUneven (line : List ℕ) : Type 0 where
  pub looks : LooksLikeRange line
  pub no_range : (width first last : ℕ) → ¬ (IsNumberRange line width first last)

-- the line is none of a file, or memory ran out
abbrev pub IsNoLine : List ℕ → OptionsError → Type 0
IsNoLine line error.NoMemory = Unit {0}
IsNoLine line (error.NoMailbox word) = (word ≡ line) × ¬ (IsBlank line) × ¬ (IsMailbox line)
IsNoLine line (error.NoRange word) = (word ≡ line) × (IsUnfair line ⊎ IsUneven line)
IsNoLine line (error.Missing flag) = ⊥
IsNoLine line (error.Bad flag) = ⊥
IsNoLine line (error.Unknown word) = ⊥
