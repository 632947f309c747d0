use Rattle.std.proofs.Common.{◌≡◌, ℕ, ◌+◌, ◌<◌, ◌≤◌, Some, get_or, vec_items, vec_len, vec_capacity}
use Rattle.std.specs.Vec.Iter.{into_iter_items, into_iter_len}
use Rattle.notifier.specs.Held.{seen_by}
use Rattle.notifier.specs.Standing.{first_standing}
use Rattle.crew.specs.Ready.{start_of}
use Rattle.crew.proofs.seating.open_desks.Given as goal

abbrev pub invariant-loop-held : goal.invariant-loop-held
invariant-loop-held g l = let done = vec_len l.desks in record {
  count : done + into_iter_len l.held-iterator ≡ vec_len l.fn.boxes;
  held : (k : ℕ) (b : _) → k < into_iter_len l.held-iterator → get_or (into_iter_items l.held-iterator) k b ≡ get_or l.fn.boxes.items (done + k) b;
  room : vec_len l.fn.boxes ≤ vec_capacity l.desks;
  worker : l.worker ≡ done;
  new : (k : ℕ) (d : _) (b : _) → k < done
      → seen_by g.P.Package.seen (get_or (vec_items l.desks) k d) ≡ Some (first_standing (start_of g.P.Package.seen l.fn.setup k (get_or l.fn.boxes.items k b).items));
}
