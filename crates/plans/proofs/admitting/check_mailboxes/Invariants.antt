use Rattle.std.proofs.Common.{◌≡◌, true, take}
use Rattle.std.specs.List.{All}
use Rattle.plans.specs.Heard.{has_mailbox}
use Rattle.plans.proofs.admitting.check_mailboxes.Given as goal

abbrev pub invariant-loop-pair : goal.invariant-loop-pair
invariant-loop-pair l = All (λ pair. has_mailbox l.mailboxes pair.1 ≡ true) (take l.pair-index l.further)
