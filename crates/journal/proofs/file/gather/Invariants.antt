use Rattle.std.proofs.Common.{◌≡◌, ◌++◌}
use Rattle.std.specs.Vec.Iter.{into_iter_items}
use Rattle.journal.specs.Gathering.{AreGathered}
use Rattle.journal.proofs.file.gather.Given as goal

abbrev pub invariant-loop-entry : goal.invariant-loop-entry
invariant-loop-entry l = record {
  all : l.yielded ++ into_iter_items l.entry-iterator ≡ into_iter_items l.fn.records;
  gathered : AreGathered l.workers l.yielded l.all.items;
}
