use Rattle.std.proofs.Common.{◌≡◌, ℕ, ◌+◌, ◌<◌, ◌≤◌, Some, length, map, get_or, vec_items, vec_len, vec_capacity}
use Rattle.std.specs.Vec.Iter.{into_iter_items, into_iter_len}
use Rattle.notifier.specs.Held.{seen_by}
use Rattle.notifier.specs.Standing.{Standing}
use Rattle.queues.specs.OutboxSeats.{PosterSeat}
use Rattle.crew.specs.Ports.{AreDealt}
use Rattle.crew.specs.Ready.{new_worker_seen, IsReady}
use Rattle.crew.proofs.seating.new_workers.Given as goal

abbrev pub invariant-loop-desk : goal.invariant-loop-desk
invariant-loop-desk g l = let done = vec_len l.workers in record {
  desk_count : done + into_iter_len l.desk-iterator ≡ vec_len l.fn.desks;
  desk : (k : ℕ) (d : _) → k < into_iter_len l.desk-iterator → get_or (into_iter_items l.desk-iterator) k d ≡ get_or l.fn.desks.items (done + k) d;
  posters_count : done + into_iter_len l.rest ≡ vec_len l.fn.desks;
  posters : (k : ℕ) (p : PosterSeat) → k < into_iter_len l.rest → get_or (into_iter_items l.rest) k p ≡ get_or l.fn.posters.items (done + k) p;
  room : vec_len l.fn.desks ≤ vec_capacity l.workers;
  ready : (k : ℕ) (s : _) (d : _) (p : PosterSeat) (stands : Standing) → k < done → seen_by g.P.Package.seen (get_or l.fn.desks.items k d) ≡ Some stands
      → IsReady stands (length l.fn.ports) (get_or l.fn.posters.items k p) (new_worker_seen g.P.Package.seen (get_or (vec_items l.workers) k s));
  dealt : AreDealt l.ports (map (λ s. s.receiver.inbox) (vec_items l.workers)) (length l.fn.ports);
}
