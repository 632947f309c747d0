use Rattle.std.proofs.Common.{◌≡◌, ◌++◌}
use Rattle.std.specs.Vec.Iter.{into_iter_items}
use Rattle.service.specs.Shelved.{all_told_again}
use Rattle.service.proofs.shelf.tell_all.Given as goal

abbrev pub invariant-loop-change : goal.invariant-loop-change
invariant-loop-change l = record {
  whole : l.yielded ++ into_iter_items l.change-iterator ≡ l.fn.changes.items;
  told : l.keeper ≡ all_told_again l.worker l.yielded l.fn.keeper;
}
