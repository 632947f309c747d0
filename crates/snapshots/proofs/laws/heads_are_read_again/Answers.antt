use Rattle.snapshots.proofs.Messages.{head_form}
use Rattle.snapshots.proofs.laws.heads_are_read_again.Goals as goal

pub returns : goal.returns
returns c = head_form
