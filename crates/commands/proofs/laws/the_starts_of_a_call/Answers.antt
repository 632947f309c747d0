use Rattle.commands.proofs.Lives.{starts_of_a_call}
use Rattle.commands.proofs.laws.the_starts_of_a_call.Goals as goal

pub returns : goal.returns
returns c = starts_of_a_call
