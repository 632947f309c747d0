use Rattle.server.proofs.Counted.{CountedFront}
use Rattle.server.proofs.crew_work.note_counts.Given as goal

abbrev pub invariant-loop-at : goal.invariant-loop-at
invariant-loop-at l = CountedFront l.at l.reports l.fn.works l.works
