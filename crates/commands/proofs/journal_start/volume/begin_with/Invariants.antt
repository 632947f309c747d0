use Rattle.std.proofs.Common.{◌≡◌, map, take}
use Rattle.notifier.specs.Held.{seen_by}
use Rattle.commands.specs.Begun.{IsLastSecond, AreLiving}
use Rattle.commands.proofs.journal_start.volume.begin_with.Given as goal

abbrev pub invariant-loop-desk : goal.invariant-loop-desk
invariant-loop-desk g l = record {
  unanswered : l.begins.unanswered.items ≡ l.fn.first.items;
  tick : IsLastSecond (map (seen_by g.P.Package.seen) l.desks) l.begins.tick;
  living : AreLiving (map (seen_by g.P.Package.seen) (take l.desk-index l.desks)) l.begins.living.items;
}
