use Rattle.commands.specs.Runs.{mailbox_named}
use Rattle.commands.proofs.Ordered.{flat_more}
use Rattle.commands.proofs.journal_opened.add_names.Goals as goal

pub loop-change-preserved : goal.loop-change-preserved
loop-change-preserved c =
    flat_more mailbox_named c.args.changes.now c.loop-change.change-index c.change-item.result c.args.names.now.items c.loop-change.names.items _
    c.loop-change-test.true c.change-item.is c.loop-change.invariant c.in_ok-add_name.ensures
