use Rattle.life.proofs.Fates.{in_time_law}
use Rattle.life.proofs.in_time.Goals as goal

pub returns : goal.returns
returns c = in_time_law
