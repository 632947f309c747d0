use Rattle.life.proofs.Sentences.{touched_law}
use Rattle.life.proofs.touched.Goals as goal

pub returns : goal.returns
returns c = touched_law
