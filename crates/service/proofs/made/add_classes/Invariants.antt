use Rattle.std.proofs.Common.{◌≡◌, ◌++◌, take, filter_map}
use Rattle.service.specs.Made.{last_change}
use Rattle.service.proofs.made.add_classes.Given as goal

abbrev pub invariant-loop-class : goal.invariant-loop-class
invariant-loop-class l = l.changes.items ≡ l.fn.changes.items ++ filter_map (last_change (l.mailbox, l.counts)) (take l.class-index l.classes)
