use Rattle.std.proofs.Common.{◌≡◌, List, [], false}
use Rattle.transport.specs.Wires.{Grows}
use Rattle.transport.specs.declared.datagram.Datagram.{Datagram}
use Rattle.service.specs.Listening.{IsDeafAsTold}
use Rattle.service.proofs.datagrams.SipDesk.hear_answers.Given as goal

abbrev pub invariant-loop : goal.invariant-loop
invariant-loop g l = record {
  came : List Datagram;
  longest : l.self.longest ≡ l.fn.self.longest;
  going : l.self.going ≡ l.fn.self.going;
  admission : l.self.admission ≡ l.fn.self.admission;
  given : Grows (g.W.Wire.given l.fn.self.coming) (g.W.Wire.given l.self.coming) came;
  taken : Grows (g.W.Wire.taken l.fn.self.coming) (g.W.Wire.taken l.self.coming) [];
  deaf : IsDeafAsTold false (g.W.Ear.misses l.fn.self.coming) (g.W.Ear.misses l.self.coming);
}
