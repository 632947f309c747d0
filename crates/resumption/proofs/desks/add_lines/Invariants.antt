use Rattle.std.proofs.Common.{◌≡◌, ◌++◌, map}
use Rattle.std.specs.Vec.Iter.{into_iter_items}
use Rattle.notifier_model.specs.declared.event.Event.TheVariants as event
use Rattle.resumption.proofs.desks.add_lines.Given as goal

abbrev pub invariant-loop-change : goal.invariant-loop-change
invariant-loop-change l = record {
  whole : l.yielded ++ into_iter_items l.change-iterator ≡ l.fn.lines.items;
  added : l.events.items ≡ l.fn.events.items ++ map (λ c. event.Mail c) l.yielded;
}
