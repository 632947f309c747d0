use Rattle.life.proofs.Repeats.{again_law}
use Rattle.life.proofs.isolation.again.Goals as goal

pub returns : goal.returns
returns c = again_law
