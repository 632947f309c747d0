use Rattle.std.proofs.Common.{◌≡◌, ℕ, ◌+◌, ◌<◌, ◌≤◌, get_or, vec_items, vec_len, vec_capacity}
use Rattle.std.specs.Vec.Iter.{into_iter_items, into_iter_len}
use Rattle.crew.specs.Started.{hired}
use Rattle.crew.proofs.start.launch_all.Given as goal

abbrev pub invariant-loop-new_worker : goal.invariant-loop-new_worker
invariant-loop-new_worker g l = let done = vec_len l.workers in let rest = l.new_worker-iterator in record {
  count : done + into_iter_len rest ≡ vec_len l.fn.new_workers;
  gates : done + into_iter_len l.rest ≡ vec_len l.fn.new_workers;
  room : vec_len l.fn.new_workers ≤ vec_capacity l.workers;
  left : (k : ℕ) (s : _) → k < into_iter_len rest → get_or (into_iter_items rest) k s ≡ get_or l.fn.new_workers.items (done + k) s;
  launched : (k : ℕ) (h : _) (s : _) → k < done → hired (get_or (vec_items l.workers) k h).promise ≡ record {
    stands = (get_or l.fn.new_workers.items k s).token.stands;
    reads = (get_or l.fn.new_workers.items k s).receiver;
    posts = (get_or l.fn.new_workers.items k s).poster;
  };
}
