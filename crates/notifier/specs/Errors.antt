-- The numbers of a desk's errors.
use Rattle.std.specs.Prelude.{ℕ}
use Rattle.notifier.specs.declared.desk.DeskError.{DeskError}
use Rattle.notifier.specs.declared.desk.DeskError.TheVariants.{NoMemory, Spent}

abbrev pub number_of : DeskError → ℕ
number_of NoMemory = 1
number_of Spent = 2
