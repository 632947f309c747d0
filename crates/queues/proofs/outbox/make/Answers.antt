use Rattle.std.proofs.Common.{ap}
use Rattle.queues.proofs.Keeps.{begins, forks}
use Rattle.queues.proofs.outbox.make.Goals as goal

pub ruled-requires-clause-rule : goal.ruled-requires-clause-rule
ruled-requires-clause-rule c = begins

pub another-worker-requires-clause-rule : goal.another-worker-requires-clause-rule
another-worker-requires-clause-rule c = forks _ _ (ap (λ v. v.is_receiver) c.loop-number.invariant.knows)
