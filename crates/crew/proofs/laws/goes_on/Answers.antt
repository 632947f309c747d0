use Rattle.crew.proofs.GoingOn.{goes_on_law}
use Rattle.crew.proofs.laws.goes_on.Goals as goal

pub returns : goal.returns
returns c = goes_on_law
