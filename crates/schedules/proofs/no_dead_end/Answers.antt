use Rattle.schedules.proofs.Reaching.{no_dead_end_law}
use Rattle.schedules.proofs.no_dead_end.Goals as goal

pub returns : goal.returns
returns c = no_dead_end_law
