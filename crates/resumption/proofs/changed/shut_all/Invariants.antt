use Rattle.std.proofs.Common.{◌≡◌, ◌++◌, map}
use Rattle.std.specs.Vec.Iter.{into_iter_items}
use Rattle.notifier.specs.Held.{seen_by}
use Rattle.resumption.specs.Changed.{all_shut}
use Rattle.resumption.proofs.changed.shut_all.Given as goal

abbrev pub invariant-loop-desk : goal.invariant-loop-desk
invariant-loop-desk g l = record {
  whole : l.yielded ++ into_iter_items l.desk-iterator ≡ l.fn.desks.items;
  outs : l.outs.items ≡ l.fn.outs.items ++ all_shut (map (seen_by g.P.Package.seen) l.yielded);
}
