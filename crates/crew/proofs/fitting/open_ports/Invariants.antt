use Rattle.std.proofs.Common.{[], vec_items}
use Rattle.crew.specs.Ports.{AreDealt}
use Rattle.crew.proofs.fitting.open_ports.Given as goal

abbrev pub invariant-loop-at : goal.invariant-loop-at
invariant-loop-at l = AreDealt (vec_items l.ports) [] l.at
