use Rattle.std.proofs.Common.{◌≡◌, [], true, false}
use Rattle.transport.specs.Wires.{Grows}
use Rattle.crew.specs.Kept.{SameSeats}
use Rattle.service.specs.Listening.{IsDeafAsTold}
use Rattle.service.specs.Taken.{operators_in, seen}
use Rattle.service.proofs.Taking.{Taking}
use Rattle.service.proofs.lines.ControlDesk.take_lines.Given as goal

abbrev pub invariant-loop : goal.invariant-loop
invariant-loop g l = record {
  still_open : l.port.is_open ≡ true;
  seats : SameSeats l.fn.port l.port;
  hearing : operators_in l.self.operators ≡ operators_in l.fn.self.operators;
  coming : Grows (g.W.Wire.taken l.fn.self.coming) (g.W.Wire.taken l.self.coming) [];
  deaf : IsDeafAsTold false (g.W.Ear.misses l.fn.self.coming) (g.W.Ear.misses l.self.coming);
  going : Grows (g.W.Wire.given l.fn.self.going) (g.W.Wire.given l.self.going) [];
  taking : Taking (seen l.fn.self) (seen l.self) l.fn.port l.port (g.W.Wire.given l.fn.self.coming) (g.W.Wire.given l.self.coming)
      (g.W.Wire.taken l.fn.self.going) (g.W.Wire.taken l.self.going) (g.W.Wire.failures l.fn.self.going) (g.W.Wire.failures l.self.going);
}
