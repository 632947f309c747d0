use Rattle.std.proofs.Common.{◌≡◌, ◌++◌, map}
use Rattle.std.specs.Vec.Iter.{into_iter_items}
use Rattle.keeper.specs.Told.{kept_from}
use Rattle.keeper.proofs.keeper.Keeper.new.Given as goal

abbrev pub invariant-loop-told : goal.invariant-loop-told
invariant-loop-told l = record {
  whole : l.yielded ++ into_iter_items l.told-iterator ≡ l.fn.told.items;
  kept : l.workers.items ≡ map kept_from l.yielded;
}
