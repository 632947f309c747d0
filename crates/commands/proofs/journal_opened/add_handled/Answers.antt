use Rattle.commands.specs.Runs.{mail_told}
use Rattle.commands.proofs.Ordered.{flat_more}
use Rattle.commands.proofs.journal_opened.add_handled.Goals as goal

pub loop-event-preserved : goal.loop-event-preserved
loop-event-preserved c =
    flat_more mail_told c.args.events.now c.loop-event.event-index c.event-item.result c.args.changes.now.items c.loop-event.changes.items _
    c.loop-event-test.true c.event-item.is c.loop-event.invariant c.in_ok-add_mail.ensures
