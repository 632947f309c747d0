use Rattle.std.proofs.Common.{◌≡◌, [], true, false}
use Rattle.transport.specs.Wires.{Grows}
use Rattle.crew.specs.Kept.{SameSeats}
use Rattle.service.specs.Listening.{IsDeafAsTold}
use Rattle.service.proofs.Hearing.{Hearing}
use Rattle.service.proofs.datagrams.SipDesk.hear_datagrams.Given as goal

abbrev pub invariant-loop : goal.invariant-loop
invariant-loop g l = record {
  still_open : l.port.is_open ≡ true;
  seats : SameSeats l.fn.port l.port;
  longest : l.self.longest ≡ l.fn.self.longest;
  hearing : Hearing l.fn.self.longest l.fn.self.admission l.self.admission l.moment l.fn.port l.port
      (g.W.Wire.given l.fn.self.coming) (g.W.Wire.given l.self.coming) (g.W.Wire.taken l.fn.self.going) (g.W.Wire.taken l.self.going)
      (g.W.Wire.failures l.fn.self.going) (g.W.Wire.failures l.self.going);
  taken : Grows (g.W.Wire.taken l.fn.self.coming) (g.W.Wire.taken l.self.coming) [];
  going : Grows (g.W.Wire.given l.fn.self.going) (g.W.Wire.given l.self.going) [];
  deaf : IsDeafAsTold false (g.W.Ear.misses l.fn.self.coming) (g.W.Ear.misses l.self.coming);
}
