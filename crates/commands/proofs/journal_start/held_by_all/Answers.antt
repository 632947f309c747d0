use Rattle.std.proofs.Common.{[]}
use Rattle.journal.specs.declared.file.Account.{Account}
use Rattle.resumption.specs.Told.{held_names}
use Rattle.commands.proofs.Ordered.{flat_more}
use Rattle.commands.proofs.journal_start.held_by_all.Goals as goal

pub loop-account-preserved : goal.loop-account-preserved
loop-account-preserved c =
    flat_more (λ (a : Account). held_names a.book.told.mail) c.args.accounts.now c.loop-account.account-index c.account-item.result [] c.loop-account.names.items _
    c.loop-account-test.true c.account-item.is c.loop-account.invariant c.in_ok-add_held.ensures
