use Rattle.keeper.proofs.Saying.{what_came}
use Rattle.keeper.proofs.laws.the_current_file_says_what_came.Goals as goal

pub returns : goal.returns
returns c = what_came
