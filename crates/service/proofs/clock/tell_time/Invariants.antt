use Rattle.std.proofs.Common.{◌≡◌, true}
use Rattle.crew.specs.Kept.{SameSeats}
use Rattle.service.proofs.Ticking.{Ticking}
use Rattle.service.proofs.clock.tell_time.Given as goal

abbrev pub invariant-loop : goal.invariant-loop
invariant-loop g l = record {
  still_open : l.port.is_open ≡ true;
  seats : SameSeats l.fn.port l.port;
  ticking : Ticking l.fn.stopwatch.tick l.fn.port l.port l.second;
  failures : l.stopwatch.failures ≡ l.fn.stopwatch.failures;
}
