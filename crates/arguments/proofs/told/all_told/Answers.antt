use Rattle.std.proofs.Common.{ap, ◌∙◌, map}
use Rattle.arguments.proofs.ToldBoxes.{all-push}
use Rattle.arguments.proofs.told.all_told.Goals as goal

pub loop-worker-preserved : goal.loop-worker-preserved
loop-worker-preserved g c =
    ap (map (λ boxes. map g.P.Package.seen boxes.items)) c.in_ok-push.ensures.items
    ∙ all-push (λ boxes. map g.P.Package.seen boxes.items) c.loop-worker.all.items c.in_ok-boxes_told.field-0 c.args.workers c.loop-worker.worker c.args.no_refer c.args.changes.now c.args.mailboxes.now _
    c.loop-worker.invariant c.in_ok-boxes_told.ensures c.in_ok-names.ensures
