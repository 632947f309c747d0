use Rattle.queues.proofs.Keeps.{takes, looks}
use Rattle.queues.proofs.outbox.pop.Goals as goal

pub pop_as-requires-clause-rule : goal.pop_as-requires-clause-rule
pop_as-requires-clause-rule g c = (takes _ _ c.requires.takes, looks _ _ c.requires.takes)
