use Rattle.life.proofs.Sentences.{births_law}
use Rattle.life.proofs.born.Goals as goal

pub returns : goal.returns
returns c = births_law
