use Rattle.crew.proofs.Loops.{Draining}
use Rattle.crew.proofs.working.drain.Given as goal

abbrev pub invariant-loop : goal.invariant-loop
invariant-loop g l = Draining l.fn.receiver l.receiver l.left
