use Rattle.std.proofs.Common.{◌≡◌}
use Rattle.crossbeam_queue.specs.Passes.{view, IsSamePass}
use Rattle.queues.proofs.outbox.push.Given as goal

abbrev pub invariant-loop : goal.invariant-loop
invariant-loop g l = record {
  item : l.item ≡ l.fn.item;
  seat : IsSamePass l.fn.seat l.seat;
  knows : view l.seat ≡ view l.fn.seat;
}
