use Rattle.journal.specs.Gathering.{AreUnknown}
use Rattle.journal.proofs.known.all_unknown.Given as goal

abbrev pub invariant-loop-worker : goal.invariant-loop-worker
invariant-loop-worker l = AreUnknown l._worker l.all.items
