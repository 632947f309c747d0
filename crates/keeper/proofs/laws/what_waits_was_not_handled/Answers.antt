use Rattle.keeper.proofs.Saying.{what_waits}
use Rattle.keeper.proofs.laws.what_waits_was_not_handled.Goals as goal

pub returns : goal.returns
returns c = what_waits
