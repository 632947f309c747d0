use Rattle.std.proofs.Common.{◌≡◌, map}
use Rattle.std.specs.List.{range_with_len}
use Rattle.arguments.specs.Setup.{dealt_names}
use Rattle.arguments.specs.Told.{boxes_told}
use Rattle.arguments.proofs.told.all_told.Given as goal

abbrev pub invariant-loop-worker : goal.invariant-loop-worker
invariant-loop-worker g l =
    map (λ boxes. map g.P.Package.seen boxes.items) l.all.items
    ≡ map (λ worker. boxes_told l.no_refer l.changes (dealt_names l.workers worker l.mailboxes)) (range_with_len 0 l.worker)
