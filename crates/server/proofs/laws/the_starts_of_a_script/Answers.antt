use Rattle.server.proofs.Lives.{starts_of_a_script}
use Rattle.server.proofs.laws.the_starts_of_a_script.Goals as goal

pub returns : goal.returns
returns c = starts_of_a_script
