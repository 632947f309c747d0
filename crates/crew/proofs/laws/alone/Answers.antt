use Rattle.crew.proofs.GoingOn.{alone_goes_on_law}
use Rattle.crew.proofs.Joined.{alone_law}
use Rattle.crew.proofs.laws.alone.Goals as goal

pub returns-clause-anew : goal.returns-clause-anew
returns-clause-anew c = alone_law

pub returns-clause-on : goal.returns-clause-on
returns-clause-on c = alone_goes_on_law
