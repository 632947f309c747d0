use Rattle.keeper.proofs.Following.{both_say}
use Rattle.keeper.proofs.laws.both_files_say_all_events.Goals as goal

pub returns : goal.returns
returns c = both_say
