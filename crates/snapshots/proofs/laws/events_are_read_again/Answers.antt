use Rattle.snapshots.proofs.Events.{event_form}
use Rattle.snapshots.proofs.laws.events_are_read_again.Goals as goal

pub returns : goal.returns
returns c = event_form
