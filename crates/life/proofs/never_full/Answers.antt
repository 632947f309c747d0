use Rattle.life.proofs.NeverFull.{never_full_law}
use Rattle.life.proofs.never_full.Goals as goal

pub returns : goal.returns
returns c = never_full_law
