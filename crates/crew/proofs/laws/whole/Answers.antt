use Rattle.crew.proofs.Others.{whole_law, whole_goes_on_law}
use Rattle.crew.proofs.laws.whole.Goals as goal

pub returns-clause-anew : goal.returns-clause-anew
returns-clause-anew c = whole_law

pub returns-clause-on : goal.returns-clause-on
returns-clause-on c = whole_goes_on_law
