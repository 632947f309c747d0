use Rattle.std.proofs.Common.{◌≡◌}
use Rattle.queues.proofs.many_to_one.Receiver.take.Given as goal

abbrev pub invariant-loop : goal.invariant-loop
invariant-loop g l = l.self ≡ l.fn.self
