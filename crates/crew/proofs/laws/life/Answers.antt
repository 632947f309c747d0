use Rattle.crew.proofs.GoingOn.{life_goes_on_law}
use Rattle.crew.proofs.Joined.{joined_life_law}
use Rattle.crew.proofs.laws.life.Goals as goal

pub returns-clause-anew : goal.returns-clause-anew
returns-clause-anew c = joined_life_law

pub returns-clause-on : goal.returns-clause-on
returns-clause-on c = life_goes_on_law
