use Rattle.schedules.proofs.Steps.{inbox_law}
use Rattle.schedules.proofs.inboxes.Goals as goal

pub returns : goal.returns
returns c = inbox_law
