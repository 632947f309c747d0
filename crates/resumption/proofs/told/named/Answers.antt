use Rattle.std.proofs.Common.{◌∙◌}
use Rattle.package.specs.Values.{MailChange}
use Rattle.resumption.proofs.Telling.{set_more}
use Rattle.resumption.proofs.told.named.Goals as goal

pub loop-entry-preserved : goal.loop-entry-preserved
loop-entry-preserved c =
    set_more (λ (m : MailChange). m.mailbox) c.args.entries.now c.loop-entry.entry-index c.entry-item.result c.loop-entry.set.keys _ _
    c.loop-entry-test.true c.entry-item.is (c.in_ok-from_str.ensures.ok ∙ c.mailbox.ensures.value) c.loop-entry.invariant c.in_ok-insert.ensures.keys
