use Rattle.life.proofs.Fates.{terminated_law}
use Rattle.life.proofs.terminated.Goals as goal

pub returns : goal.returns
returns c = terminated_law
