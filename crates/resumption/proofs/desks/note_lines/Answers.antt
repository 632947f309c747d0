use Rattle.resumption.proofs.Noting.{handled_more}
use Rattle.resumption.proofs.desks.note_lines.Goals as goal

pub loop-change-preserved : goal.loop-change-preserved
loop-change-preserved c =
    handled_more c.args.worker c.args.lines.now c.loop-change.change-index c.change-item.result _ c.args.keeper.now c.loop-change.keeper _
    c.loop-change-test.true c.change-item.is c.in_ok-copy.ensures c.loop-change.invariant c.in_ok-handled.ensures.kept
