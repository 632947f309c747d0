use Rattle.std.proofs.Common.{◌≡◌, ◌++◌, take, filter_map}
use Rattle.std.specs.List.{flat_map, AllByRecursion}
use Rattle.slab.specs.Slab as slab
use Rattle.snapshots.specs.Rows.{row_text, IsRow}
use Rattle.notifier.proofs.save.write_each.Given as goal

abbrev pub invariant-loop-key : goal.invariant-loop-key
invariant-loop-key l = record {
  text : l.out.items ≡ l.fn.out.items ++ flat_map row_text (filter_map (λ key. slab.get l.rows key) (take l.key-index l.keys));
  fit : AllByRecursion IsRow (filter_map (λ key. slab.get l.rows key) (take l.key-index l.keys));
}
