use Rattle.package.proofs.Runs.{kind_law}
use Rattle.package.proofs.laws.kinds_stay.Goals as goal

pub returns : goal.returns
returns c = kind_law
