use Rattle.life.proofs.Parts.{apart_law}
use Rattle.life.proofs.tags.apart.Goals as goal

pub returns : goal.returns
returns c = apart_law
