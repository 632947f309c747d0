use Rattle.crew.proofs.Others.{took_law}
use Rattle.crew.proofs.laws.took.Goals as goal

pub returns : goal.returns
returns c = took_law
