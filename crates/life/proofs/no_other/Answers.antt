use Rattle.life.proofs.Owners.{no_other_law}
use Rattle.life.proofs.no_other.Goals as goal

pub returns : goal.returns
returns c = no_other_law
