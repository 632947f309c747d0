use Rattle.std.proofs.Common.{◌≡◌, false}
use Rattle.transactions.specs.Timers.{is_named}
use Rattle.transactions.specs.Places.{name_head}
use Rattle.transactions.specs.Stored.{at, name_seat}
use Rattle.transactions.proofs.Walks.{Walked, seat_rank}
use Rattle.transactions.proofs.book.named_place.Given as goal

abbrev pub invariant-loop-node : goal.invariant-loop-node
invariant-loop-node l = Walked (name_seat l.book) (name_head l.book.size l.tag l.number) l.node (λ n. is_named l.tag l.number (at l.book n) ≡ false)

abbrev pub decreases-loop-node : goal.decreases-loop-node
decreases-loop-node l = seat_rank (name_seat l.book l.node)
