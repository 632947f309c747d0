use Rattle.std.proofs.Common.{◌≡◌, take}
use Rattle.commands.specs.GoingOn.{held_by_all}
use Rattle.commands.proofs.journal_start.held_by_all.Given as goal

abbrev pub invariant-loop-account : goal.invariant-loop-account
invariant-loop-account l = l.names.items ≡ held_by_all (take l.account-index l.accounts)
