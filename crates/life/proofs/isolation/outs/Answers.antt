use Rattle.life.proofs.SentOut.{outs_law}
use Rattle.life.proofs.isolation.outs.Goals as goal

pub returns : goal.returns
returns c = outs_law
