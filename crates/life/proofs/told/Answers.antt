use Rattle.life.proofs.Law.{notices_law}
use Rattle.life.proofs.told.Goals as goal

pub returns : goal.returns
returns c = notices_law
