use Rattle.life.proofs.Homes.{together_law}
use Rattle.life.proofs.isolation.together.Goals as goal

pub returns : goal.returns
returns c = together_law
