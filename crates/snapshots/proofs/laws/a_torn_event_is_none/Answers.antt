use Rattle.snapshots.specs.Events.{event_text, event_at, IsEvent}
use Rattle.snapshots.proofs.Events.{event_form}
use Rattle.snapshots.proofs.Torn.{torn_is_none}
use Rattle.snapshots.proofs.laws.a_torn_event_is_none.Goals as goal

pub returns : goal.returns
returns c = torn_is_none event_text IsEvent event_at event_form
