use Rattle.life.proofs.Sentences.{goes_on_law}
use Rattle.life.proofs.goes_on.Goals as goal

pub returns : goal.returns
returns c = goes_on_law
