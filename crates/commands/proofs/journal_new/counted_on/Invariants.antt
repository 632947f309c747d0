use Rattle.std.proofs.Common.{◌≡◌, ◌++◌, map}
use Rattle.std.specs.Vec.Iter.{into_iter_items}
use Rattle.commands.specs.Anew.{counted_on}
use Rattle.commands.proofs.journal_new.counted_on.Given as goal

abbrev pub invariant-loop-was : goal.invariant-loop-was
invariant-loop-was l = l.all.items ++ map (counted_on l.events l.mails) (into_iter_items l.was-iterator) ≡ map (counted_on l.events l.mails) l.fn.told.items
