use Rattle.std.proofs.Common.{◌≡◌, ◌++◌, map, length}
use Rattle.std.specs.Vec.Iter.{into_iter_items}
use Rattle.notifier.specs.Held.{seen_by}
use Rattle.resumption.specs.Changed.{all_carried, all_carried_outs, all_told_since}
use Rattle.resumption.proofs.changed.renew_all.Given as goal

abbrev pub invariant-loop-desk : goal.invariant-loop-desk
invariant-loop-desk g l = record {
  whole : l.yielded ++ into_iter_items l.desk-iterator ≡ l.fn.desks.items;
  many : length l.renewed.desks.items ≡ length l.yielded;
  stands : map (seen_by g.P.Package.seen) l.renewed.desks.items ≡ all_carried l.wish l.is_lost (map (seen_by g.P.Package.seen) l.yielded) l.keeper.workers;
  first : l.renewed.first.items ≡ all_carried_outs l.wish l.is_lost (map (seen_by g.P.Package.seen) l.yielded) l.keeper.workers;
  told : l.renewed.told.items ≡ all_told_since l.wish (length l.yielded) l.keeper.workers;
}
