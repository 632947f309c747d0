use Rattle.std.proofs.Common.{map, take}
use Rattle.notifier.specs.Held.{seen_by}
use Rattle.commands.specs.Begun.{IsLastSecond}
use Rattle.commands.proofs.journal_start.volume.last_second.Given as goal

abbrev pub invariant-loop-desk : goal.invariant-loop-desk
invariant-loop-desk g l = IsLastSecond (map (seen_by g.P.Package.seen) (take l.desk-index l.desks)) l.second
