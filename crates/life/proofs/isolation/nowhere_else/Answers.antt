use Rattle.life.proofs.Homes.{nowhere_else_law}
use Rattle.life.proofs.isolation.nowhere_else.Goals as goal

pub returns : goal.returns
returns c = nowhere_else_law
