-- What a package leaves behind when it is dropped.
use Rattle.std.specs.Prelude.{ℕ, ◌+◌, ◌-◌, ◌^◌, min, List}
use Rattle.once_cell.specs.Once.{cell_name}
use Rattle.package.specs.declared.closing.ClosingCell.{ClosingCell}
use Rattle.package.specs.declared.change.Outcome.{Outcome}
use Rattle.package.specs.declared.change.Outcome.TheVariants.{Changed, Same, Unknown}

-- what it keeps for its end: its name, how many changes it answered with Changed, and which cell is to get its Closing
pub record Ending : Type 0 where
  pub event : List ℕ
  pub changes : ℕ
  pub cell : ℕ

-- that of a package of this name that answered no change yet, and whose Closing goes to this cell
abbrev pub new_ending : List ℕ → ClosingCell → Ending
new_ending event cell = record { event = event; changes = 0; cell = cell_name cell.cell }

-- one more answer: Changed counts, and the count stays at 2^64 - 1 once there
abbrev pub counted : Outcome → Ending → Ending
counted Changed ending = record ending { changes = min (ending.changes + 1) (2 ^ 64 - 1) }
counted Same ending = ending
counted Unknown ending = ending
