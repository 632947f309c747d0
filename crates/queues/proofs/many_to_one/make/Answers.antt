use Rattle.std.proofs.Common.{ap}
use Rattle.queues.proofs.Keeps.{begins, forks}
use Rattle.queues.proofs.many_to_one.make.Goals as goal

pub bounded_with-requires-clause-rule : goal.bounded_with-requires-clause-rule
bounded_with-requires-clause-rule g c = begins

pub another-port-requires-clause-rule : goal.another-port-requires-clause-rule
another-port-requires-clause-rule g c = forks _ _ (ap (λ v. v.is_receiver) c.loop-number.invariant.knows)
