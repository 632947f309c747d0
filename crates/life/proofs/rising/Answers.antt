use Rattle.life.proofs.Sentences.{rising_law}
use Rattle.life.proofs.rising.Goals as goal

pub returns : goal.returns
returns c = rising_law
