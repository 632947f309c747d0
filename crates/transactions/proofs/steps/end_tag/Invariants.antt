use Rattle.std.proofs.Common.{◌≡◌, false}
use Rattle.transactions.specs.Timers.{is_tagged}
use Rattle.transactions.specs.Machine.{without}
use Rattle.transactions.specs.Places.{tag_head}
use Rattle.transactions.specs.Stored.{at, tag_seat, live_list, IsSound}
use Rattle.transactions.proofs.Walks.{Walked, seat_rank}
use Rattle.transactions.proofs.steps.end_tag.Given as goal

abbrev pub invariant-loop-node : goal.invariant-loop-node
invariant-loop-node l = record {
  sound : IsSound l.book;
  head : l.head ≡ tag_head l.book.size l.tag;
  kept : l.book.kept ≡ l.fn.book.kept;
  capacity : l.book.slab.capacity ≡ l.fn.book.slab.capacity;
  live : without l.tag (live_list l.book) ≡ without l.tag (live_list l.fn.book);
  walked : Walked (tag_seat l.book) (tag_head l.book.size l.tag) l.node (λ n. is_tagged l.tag (at l.book n) ≡ false);
}

abbrev pub decreases-loop-node : goal.decreases-loop-node
decreases-loop-node l = seat_rank (tag_seat l.book l.node)
