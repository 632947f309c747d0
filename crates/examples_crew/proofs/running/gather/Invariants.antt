use Rattle.crew.proofs.Keeping.{Taking}
use Rattle.examples_crew.proofs.running.gather.Given as goal

abbrev pub invariant-loop : goal.invariant-loop
invariant-loop g l = Taking l.fn.taker l.taker l.left
