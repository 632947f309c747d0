use Rattle.std.proofs.Common.{◌≡◌, ◌++◌, ◌+◌}
use Rattle.std.specs.Vec.Iter.{into_iter_items}
use Rattle.journal.specs.Generations.{waiting}
use Rattle.journal.proofs.known.waiting.Given as goal

abbrev pub invariant-loop-line : goal.invariant-loop-line
invariant-loop-line l = record {
  all : l.yielded ++ into_iter_items l.line-iterator ≡ l.fn.lines.items;
  so_far : l.changes.items ≡ waiting (l.counted + l.since) l.yielded;
}
