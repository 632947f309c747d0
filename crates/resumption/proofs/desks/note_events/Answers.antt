use Rattle.resumption.proofs.Noting.{passed_more}
use Rattle.resumption.proofs.desks.note_events.Goals as goal

pub loop-event-preserved : goal.loop-event-preserved
loop-event-preserved c =
    passed_more c.args.worker c.args.events.now c.loop-event.event-index c.event-item.result c.args.keeper.now c.loop-event.keeper _
    c.loop-event-test.true c.event-item.is c.loop-event.invariant c.in_ok-passed.ensures.kept
