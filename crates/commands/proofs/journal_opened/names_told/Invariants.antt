use Rattle.std.proofs.Common.{◌≡◌, take}
use Rattle.commands.specs.Runs.{names_told}
use Rattle.commands.proofs.journal_opened.names_told.Given as goal

abbrev pub invariant-loop-account : goal.invariant-loop-account
invariant-loop-account l = l.names.items ≡ names_told (take l.account-index l.accounts)
