use Rattle.life.proofs.Words.{transfer_law}
use Rattle.life.proofs.transfer.Goals as goal

pub returns : goal.returns
returns c = transfer_law
