use Rattle.crew.proofs.Others.{rising_law, rising_goes_on_law}
use Rattle.crew.proofs.laws.rising.Goals as goal

pub returns-clause-anew : goal.returns-clause-anew
returns-clause-anew c = rising_law

pub returns-clause-on : goal.returns-clause-on
returns-clause-on c = rising_goes_on_law
