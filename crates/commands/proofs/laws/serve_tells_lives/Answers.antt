use Rattle.commands.proofs.Lives.{serve_tells}
use Rattle.commands.proofs.laws.serve_tells_lives.Goals as goal

pub returns : goal.returns
returns g c = serve_tells _
