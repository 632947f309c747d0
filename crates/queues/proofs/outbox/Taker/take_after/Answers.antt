use Rattle.std.proofs.Common.{ap}
use Rattle.queues.proofs.Keeps.{merges}
use Rattle.queues.proofs.outbox.Taker.take_after.Goals as goal

pub absorb-requires-clause-rule : goal.absorb-requires-clause-rule
absorb-requires-clause-rule g c = merges _ _ _ _ c.self.invariant.1 (ap (λ v. v.is_sender) c.done.invariant.1)
