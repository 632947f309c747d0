use Rattle.std.proofs.Common.{◌≡◌}
use Rattle.examples_crew.proofs.queue_runs.pipeline.work.Given as goal

abbrev pub invariant-loop : goal.invariant-loop
invariant-loop g l = record {
  inbox : l.receiver.inbox ≡ l.fn.ends.0.inbox;
  outbox : l.poster.outbox ≡ l.fn.ends.1.outbox;
}
