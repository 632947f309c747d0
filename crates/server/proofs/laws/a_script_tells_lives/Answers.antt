use Rattle.server.proofs.Lives.{script_tells}
use Rattle.server.proofs.laws.a_script_tells_lives.Goals as goal

pub returns : goal.returns
returns c = script_tells
