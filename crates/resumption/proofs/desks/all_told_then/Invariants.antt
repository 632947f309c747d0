use Rattle.std.proofs.Common.{◌≡◌, map, take}
use Rattle.resumption.specs.Accounts.{told_then}
use Rattle.resumption.proofs.desks.all_told_then.Given as goal

abbrev pub invariant-loop-account : goal.invariant-loop-account
invariant-loop-account l = l.all.items ≡ map told_then (take l.account-index l.accounts)
