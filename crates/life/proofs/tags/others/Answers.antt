use Rattle.life.proofs.LiveRows.{others_law}
use Rattle.life.proofs.tags.others.Goals as goal

pub returns : goal.returns
returns c = others_law
