use Rattle.std.proofs.Common.{◌≡◌, take}
use Rattle.keeper.specs.Told.{last_changes}
use Rattle.keeper.proofs.mailboxes.Mailboxes.last.Given as goal

abbrev pub invariant-loop-place : goal.invariant-loop-place
invariant-loop-place l = l.all.items ≡ last_changes (take l.place l.self)
