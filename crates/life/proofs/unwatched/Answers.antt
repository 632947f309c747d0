use Rattle.life.proofs.Fates.{unwatched_law}
use Rattle.life.proofs.unwatched.Goals as goal

pub returns : goal.returns
returns c = unwatched_law
