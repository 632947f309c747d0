use Rattle.std.proofs.Common.{◌≡◌}
use Rattle.transactions.specs.Places.{tag_head}
use Rattle.transactions.specs.Stored.{tag_seat}
use Rattle.transactions.proofs.Crowds.{Counted}
use Rattle.transactions.proofs.Walks.{seat_rank}
use Rattle.transactions.proofs.steps.is_crowded.Given as goal

abbrev pub invariant-loop-node : goal.invariant-loop-node
invariant-loop-node l = Counted l.book l.tag l.node l.count

abbrev pub decreases-loop-node : goal.decreases-loop-node
decreases-loop-node l = seat_rank (tag_seat l.book l.node)
