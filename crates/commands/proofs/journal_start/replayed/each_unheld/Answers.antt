use Rattle.std.proofs.Common.{Vec}
use Rattle.std.specs.declared.alloc.Global.{Global}
use Rattle.package.specs.Values.{MailChange}
use Rattle.commands.specs.Runs.{unheld_since}
use Rattle.commands.proofs.Unheld.{each_more}
use Rattle.commands.proofs.journal_start.replayed.each_unheld.Goals as goal

pub loop-account-preserved : goal.loop-account-preserved
loop-account-preserved c =
    each_more unheld_since (λ (u : Vec MailChange Global). u.items) c.args.accounts.now c.loop-account.account-index c.account-item.result c.loop-account.all.items _ _
    c.loop-account-test.true c.account-item.is c.loop-account.invariant c.in_ok-push.ensures.items c.in_ok-unheld_since.ensures
