use Rattle.std.proofs.Common.{◌≡◌, [], false}
use Rattle.transport.specs.Wires.{Grows}
use Rattle.service.specs.Listening.{IsDeafAsTold}
use Rattle.service.specs.Taken.{AreTurnedAway, operators_in, seen}
use Rattle.service.proofs.lines.ControlDesk.refuse_lines.Given as goal

abbrev pub invariant-loop : goal.invariant-loop
invariant-loop g l = record {
  seen : seen l.self ≡ seen l.fn.self;
  coming : Grows (g.W.Wire.taken l.fn.self.coming) (g.W.Wire.taken l.self.coming) [];
  deaf : IsDeafAsTold false (g.W.Ear.misses l.fn.self.coming) (g.W.Ear.misses l.self.coming);
  going : Grows (g.W.Wire.given l.fn.self.going) (g.W.Wire.given l.self.going) [];
  refusing : AreTurnedAway (operators_in l.fn.self.operators) (g.W.Wire.given l.fn.self.coming) (g.W.Wire.given l.self.coming)
      (g.W.Wire.taken l.fn.self.going) (g.W.Wire.taken l.self.going) (g.W.Wire.failures l.fn.self.going) (g.W.Wire.failures l.self.going);
}
