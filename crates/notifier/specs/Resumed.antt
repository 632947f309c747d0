-- What a saved book has to be, so that a desk goes on from it.
use Rattle.std.specs.Prelude.{◌≡◌, ℕ, ◌<◌, ◌≤◌, ◌^◌, List, ◌∷◌, ◌++◌, length, All, Result, Ok, Err}
use Rattle.notifier_model.specs.declared.place.Place.{Place}
use Rattle.notifier_model.specs.declared.row.Row.{Row}
use Rattle.notifier_model.specs.declared.saved.Saved.{Saved}
use Rattle.notifier.specs.declared.resume.ResumeError.{ResumeError}
use Rattle.notifier.specs.declared.resume.ResumeError.TheVariants.{NoMemory, Numbers, BadRow}
use Rattle.notifier.specs.Sound.{IsLive, IsOwn, AreRising}

-- the numbers stay within their types, each row has time left and is of its serial and of this place, serials rise, and the
-- kept answers have room
pub record MayGoOn (place : Place) (saved : Saved) : Type 0 where
  pub clock_fits : saved.clock < 2 ^ 63
  pub next_begins : 1 ≤ saved.next
  pub next_fits : saved.next ≤ 2 ^ 32
  pub rows_live : All (IsLive saved.clock) saved.rows
  pub rows_own : All (IsOwn place saved.next) saved.rows
  pub rows_rise : AreRising saved.rows
  pub ring_fits : length saved.ring ≤ place.limits.kept

-- rows that may stand in a book of this moment and this next serial
pub record AreRows (place : Place) (clock next : ℕ) (rows : List Row) : Type 0 where
  pub live : All (IsLive clock) rows
  pub own : All (IsOwn place next) rows
  pub rise : AreRising rows

-- a row that may stand behind these rows
pub record MayFollow (place : Place) (clock next : ℕ) (rows : List Row) (row : Row) : Type 0 where
  pub live : IsLive clock row
  pub own : IsOwn place next row
  pub above : All (λ r. r.serial < row.serial) rows

-- the least number above the serials of these rows
pub record IsAbove (low : ℕ) (rows : List Row) : Type 0 where
  pub above : All (λ r. r.serial < low) rows
  pub least : (bound : ℕ) → All (λ r. r.serial < bound) rows → low ≤ bound

-- a refusal is right: unless memory was wanting, p doesn't hold
abbrev pub IsRightly : {X : Type 0} → Result X ResumeError → Type 0 → Type 0
IsRightly (Ok x) p = Unit {0}
IsRightly (Err NoMemory) p = Unit {0}
IsRightly (Err Numbers) p = p → ⊥
IsRightly (Err (BadRow serial)) p = p → ⊥

-- the numbers of a saved book from which a desk of this place goes on
pub record AreInRange (place : Place) (saved : Saved) : Type 0 where
  pub clock_fits : saved.clock < 2 ^ 63
  pub next_begins : 1 ≤ saved.next
  pub next_fits : saved.next ≤ 2 ^ 32
  pub ring_fits : length saved.ring ≤ place.limits.kept

-- the row with this serial is the first of these that may not stand behind those before it
pub record IsFirstBad (place : Place) (clock next : ℕ) (rows : List Row) (serial : ℕ) : Type 0 where
  pub before : List Row
  pub row : Row
  pub rest : List Row
  pub whole : rows ≡ before ++ row ∷ rest
  pub named : row.serial ≡ serial
  pub fit : AreRows place clock next before
  pub bad : MayFollow place clock next before row → ⊥

-- a refusal of this row names it
abbrev pub NamesRow : {X : Type 0} → Result X ResumeError → Row → Type 0
NamesRow (Ok x) row = Unit {0}
NamesRow (Err NoMemory) row = Unit {0}
NamesRow (Err Numbers) row = ⊥
NamesRow (Err (BadRow serial)) row = row.serial ≡ serial

-- a refusal names its cause: a number out of its range, which p says, or the first bad row of these
abbrev pub NamesCause : {X : Type 0} → Result X ResumeError → Type 0 → Place → ℕ → ℕ → List Row → Type 0
NamesCause (Ok x) p place clock next rows = Unit {0}
NamesCause (Err NoMemory) p place clock next rows = Unit {0}
NamesCause (Err Numbers) p place clock next rows = p
NamesCause (Err (BadRow serial)) p place clock next rows = IsFirstBad place clock next rows serial
