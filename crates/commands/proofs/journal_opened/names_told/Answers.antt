use Rattle.std.proofs.Common.{[]}
use Rattle.commands.specs.Runs.{account_names}
use Rattle.commands.proofs.Ordered.{flat_more}
use Rattle.commands.proofs.journal_opened.names_told.Goals as goal

pub loop-account-preserved : goal.loop-account-preserved
loop-account-preserved c =
    flat_more account_names c.args.accounts.now c.loop-account.account-index c.account-item.result [] c.loop-account.names.items _
    c.loop-account-test.true c.account-item.is c.loop-account.invariant c.in_ok-add_told.ensures
