use Rattle.life.proofs.Numbers.{numbers_law}
use Rattle.life.proofs.numbered.Goals as goal

pub returns : goal.returns
returns c = numbers_law
