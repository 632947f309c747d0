use Rattle.life.proofs.Fates.{unanswered_law}
use Rattle.life.proofs.unanswered.Goals as goal

pub returns : goal.returns
returns c = unanswered_law
