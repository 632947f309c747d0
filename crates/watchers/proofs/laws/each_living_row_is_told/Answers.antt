use Rattle.watchers.proofs.Readings.{told_first}
use Rattle.watchers.proofs.laws.each_living_row_is_told.Goals as goal

pub returns : goal.returns
returns c = told_first
