use Rattle.keeper.proofs.Same.{AreLeft}
use Rattle.keeper.proofs.mailboxes.Mailboxes.are_last.Given as goal

abbrev pub invariant-loop-place : goal.invariant-loop-place
invariant-loop-place l = AreLeft l.self l.changes l.place l.rest
