use Rattle.life.proofs.Outs.{life_law}
use Rattle.life.proofs.life.Goals as goal

pub returns : goal.returns
returns c = life_law
