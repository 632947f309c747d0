use Rattle.std.proofs.Common.{◌≡◌, []}
use Rattle.crossbeam_channel.specs.Claims.{view, IsSeatAt}
use Rattle.crossbeam_channel.specs.Ends.{sends_on}
use Rattle.queues.specs.Rule.{receiver_view}
use Rattle.queues.specs.EndSeats.{inbox_of, new_senders}
use Rattle.queues.proofs.many_to_one.make.Given as goal

abbrev pub invariant-loop-number : goal.invariant-loop-number
invariant-loop-number g l = record {
  made : l.senders.items ≡ new_senders (inbox_of (sends_on l.end)) l.number;
  ours : IsSeatAt (sends_on l.end) l.seat;
  knows : view l.seat ≡ receiver_view l.number [];
}
