use Rattle.schedules.proofs.Steps.{outbox_law}
use Rattle.schedules.proofs.outbox.Goals as goal

pub returns : goal.returns
returns c = outbox_law
