use Rattle.life.proofs.Fates.{moved_law}
use Rattle.life.proofs.moved.Goals as goal

pub returns : goal.returns
returns c = moved_law
