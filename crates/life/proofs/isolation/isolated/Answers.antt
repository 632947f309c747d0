use Rattle.life.proofs.Notifiers.{isolated_law}
use Rattle.life.proofs.isolation.isolated.Goals as goal

pub returns : goal.returns
returns c = isolated_law
