use Rattle.commands.proofs.Lives.{udp_tells}
use Rattle.commands.proofs.laws.udp_tells_lives.Goals as goal

pub returns : goal.returns
returns g c = udp_tells _
