use Rattle.life.proofs.Sentences.{now_law}
use Rattle.life.proofs.moments.Goals as goal

pub returns : goal.returns
returns c = now_law
