use Rattle.resumption.specs.Told.{mails}
use Rattle.resumption.proofs.Lists.{one_more}
use Rattle.resumption.proofs.Telling.{mails-append}
use Rattle.resumption.proofs.told.add_mails.Goals as goal

pub loop-entry-preserved : goal.loop-entry-preserved
loop-entry-preserved c =
    one_more mails mails-append _ c.loop-entry.entry-index c.entry-item.result c.args.changes.now.items c.loop-entry.changes.items _
    c.loop-entry-test.true c.entry-item.is c.loop-entry.invariant c.in_ok-add_mail.ensures
