use Rattle.std.proofs.Common.{◌≡◌}
use Rattle.queues.proofs.many_to_one.Sender.send.Given as goal

abbrev pub invariant-loop : goal.invariant-loop
invariant-loop g l = record {
  event : l.event ≡ l.fn.event;
  same : l.self ≡ l.fn.self;
}
