use Rattle.crew.proofs.Joined.{all_law}
use Rattle.crew.proofs.laws.all.Goals as goal

pub returns : goal.returns
returns c = all_law
