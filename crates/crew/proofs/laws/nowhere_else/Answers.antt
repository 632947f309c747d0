use Rattle.crew.proofs.Elsewhere.{nowhere_else_joined}
use Rattle.crew.proofs.laws.nowhere_else.Goals as goal

pub returns : goal.returns
returns c = nowhere_else_joined
