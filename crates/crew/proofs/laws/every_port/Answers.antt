use Rattle.crew.proofs.Elsewhere.{every_port}
use Rattle.crew.proofs.laws.every_port.Goals as goal

pub returns : goal.returns
returns c = every_port
