use Rattle.std.proofs.Common.{◌≡◌, ◌++◌, map, string_bytes}
use Rattle.std.specs.List.{All}
use Rattle.std.specs.Vec.Iter.{into_iter_items}
use Rattle.arguments.specs.Settings.{IsMailbox}
use Rattle.plans.specs.Plans.{each_once, with_told}
use Rattle.plans.proofs.mailboxes.further_names.Given as goal

abbrev pub invariant-loop-name : goal.invariant-loop-name
invariant-loop-name l = record {
  whole : l.yielded ++ into_iter_items l.name-iterator ≡ l.fn.told.items;
  mailboxes : All IsMailbox l.further.items;
  together : map string_bytes l.set.keys ≡ each_once (l.names ++ l.further.items);
  told : map string_bytes l.set.keys ≡ with_told l.most (each_once l.names) l.yielded;
}
