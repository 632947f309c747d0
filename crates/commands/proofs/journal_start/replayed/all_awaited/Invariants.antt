use Rattle.std.proofs.Common.{map}
use Rattle.notifier.specs.Held.{seen_by}
use Rattle.commands.specs.GoingOn.{AreSentFirst}
use Rattle.commands.proofs.journal_start.replayed.all_awaited.Given as goal

abbrev pub invariant-loop-place : goal.invariant-loop-place
invariant-loop-place g l = AreSentFirst (map (seen_by g.P.Package.seen) l.desks) l.fn.newest.items l.outs.items
