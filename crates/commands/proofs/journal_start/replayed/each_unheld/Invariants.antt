use Rattle.std.proofs.Common.{◌≡◌, map, take, Vec}
use Rattle.std.specs.declared.alloc.Global.{Global}
use Rattle.package.specs.Values.{MailChange}
use Rattle.commands.specs.Runs.{unheld_since}
use Rattle.commands.proofs.journal_start.replayed.each_unheld.Given as goal

abbrev pub invariant-loop-account : goal.invariant-loop-account
invariant-loop-account l = map (λ (u : Vec MailChange Global). u.items) l.all.items ≡ map unheld_since (take l.account-index l.accounts)
