use Rattle.life.proofs.Sentences.{status_law}
use Rattle.life.proofs.status.Goals as goal

pub returns : goal.returns
returns c = status_law
