use Rattle.schedules.proofs.Numbering.{rising_law}
use Rattle.schedules.proofs.rising.Goals as goal

pub returns : goal.returns
returns c = rising_law
