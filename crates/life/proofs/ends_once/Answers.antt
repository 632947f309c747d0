use Rattle.life.proofs.Ends.{ends_law}
use Rattle.life.proofs.ends_once.Goals as goal

pub returns : goal.returns
returns c = ends_law
