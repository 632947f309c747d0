use Rattle.std.proofs.Common.{◌≡◌, ◌++◌, filter, map}
use Rattle.std.specs.Vec.Iter.{into_iter_items}
use Rattle.notifier.specs.Held.{seen_by}
use Rattle.commands.specs.GoingOn.{awaited_by}
use Rattle.commands.proofs.journal_start.replayed.awaited.Given as goal

abbrev pub invariant-loop-out : goal.invariant-loop-out
invariant-loop-out g l =
    let waits = awaited_by (map (seen_by g.P.Package.seen) l.fn.desks) in l.awaited.items ++ filter waits (into_iter_items l.out-iterator) ≡ filter waits l.fn.outs.items
