use Rattle.life.proofs.IsolationLaw.{same_law}
use Rattle.life.proofs.isolation.same.Goals as goal

pub returns : goal.returns
returns c = same_law
