use Rattle.std.proofs.Common.{◌≡◌, ◌++◌, map, string_bytes}
use Rattle.std.specs.Vec.Iter.{into_iter_items}
use Rattle.plans.specs.Plans.{each_once}
use Rattle.plans.proofs.mailboxes.name_set.Given as goal

abbrev pub invariant-loop-name : goal.invariant-loop-name
invariant-loop-name l = record {
  whole : l.yielded ++ into_iter_items l.name-iterator ≡ l.fn.names.items;
  held : map string_bytes l.set.keys ≡ each_once l.yielded;
}
