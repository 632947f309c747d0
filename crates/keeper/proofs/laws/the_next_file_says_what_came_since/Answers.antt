use Rattle.keeper.proofs.Following.{came_since}
use Rattle.keeper.proofs.laws.the_next_file_says_what_came_since.Goals as goal

pub returns : goal.returns
returns c = came_since
