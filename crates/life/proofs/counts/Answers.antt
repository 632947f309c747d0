use Rattle.life.proofs.Sentences.{counts_law}
use Rattle.life.proofs.counts.Goals as goal

pub returns : goal.returns
returns c = counts_law
