use Rattle.std.proofs.Common.{◌≡◌}
use Rattle.examples_crew.proofs.queue_runs.pipeline.send_all.Given as goal

abbrev pub invariant-loop-number : goal.invariant-loop-number
invariant-loop-number g l = record {
  first : l.first.inbox ≡ l.fn.senders.0.inbox;
  second : l.second.inbox ≡ l.fn.senders.1.inbox;
}
