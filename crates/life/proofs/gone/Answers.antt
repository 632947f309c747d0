use Rattle.life.proofs.Sentences.{gone_law}
use Rattle.life.proofs.gone.Goals as goal

pub returns : goal.returns
returns c = gone_law
