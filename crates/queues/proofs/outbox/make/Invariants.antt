use Rattle.std.proofs.Common.{◌≡◌, []}
use Rattle.std.specs.Arc.{arc_value}
use Rattle.crossbeam_queue.specs.Passes.{view, IsPassOf}
use Rattle.queues.specs.Rule.{receiver_view}
use Rattle.queues.specs.OutboxSeats.{outbox_of, new_posters}
use Rattle.queues.proofs.outbox.make.Given as goal

abbrev pub invariant-loop-number : goal.invariant-loop-number
invariant-loop-number l = record {
  made : l.posters.items ≡ new_posters (outbox_of (arc_value l.queue)) l.number;
  ours : IsPassOf (arc_value l.queue) l.seat;
  knows : view l.seat ≡ receiver_view l.number [];
}
