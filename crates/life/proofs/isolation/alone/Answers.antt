use Rattle.life.proofs.IsolationLaw.{alone_law}
use Rattle.life.proofs.isolation.alone.Goals as goal

pub returns : goal.returns
returns c = alone_law
