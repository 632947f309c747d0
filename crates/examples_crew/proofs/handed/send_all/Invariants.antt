use Rattle.std.proofs.Common.{◌≡◌, true}
use Rattle.crew.specs.Kept.{SameSeats}
use Rattle.examples_crew.proofs.handed.send_all.Given as goal

abbrev pub invariant-loop-event : goal.invariant-loop-event
invariant-loop-event g l = record {
  still_open : l.port.is_open ≡ true;
  seats : SameSeats l.fn.port l.port;
}
