use Rattle.life.proofs.Sentences.{silent_law}
use Rattle.life.proofs.silent.Goals as goal

pub returns : goal.returns
returns c = silent_law
