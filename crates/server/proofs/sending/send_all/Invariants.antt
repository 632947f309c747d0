use Rattle.std.proofs.Common.{◌≡◌, true, ◌++◌}
use Rattle.std.specs.Vec.Iter.{into_iter_items}
use Rattle.crew.specs.Kept.{SameSeats}
use Rattle.feeds.specs.Fed.{Sends}
use Rattle.server.proofs.sending.send_all.Given as goal

abbrev pub invariant-loop-event : goal.invariant-loop-event
invariant-loop-event g l = record {
  all : l.yielded ++ into_iter_items l.event-iterator ≡ l.fn.events.items;
  still_open : l.port.is_open ≡ true;
  seats : SameSeats l.fn.port l.port;
  sent : Sends l.fn.port l.yielded l.port;
}
