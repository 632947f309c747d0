use Rattle.std.proofs.Common.{◌≡◌}
use Rattle.examples_crew.proofs.queue_runs.pipeline.take_all.Given as goal

abbrev pub invariant-loop : goal.invariant-loop
invariant-loop g l = l.taker.outbox ≡ l.fn.taker.outbox
