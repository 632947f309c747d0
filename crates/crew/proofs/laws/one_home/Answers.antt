use Rattle.crew.proofs.OneHome.{one_home_law, one_home_goes_on_law}
use Rattle.crew.proofs.laws.one_home.Goals as goal

pub returns-clause-anew : goal.returns-clause-anew
returns-clause-anew c = one_home_law

pub returns-clause-on : goal.returns-clause-on
returns-clause-on c = one_home_goes_on_law
