use Rattle.std.proofs.Common.{◌≡◌, ℕ, ◌+◌, ◌<◌, ◌≤◌, get_or, vec_items, vec_len, vec_capacity}
use Rattle.std.specs.Vec.Iter.{into_iter_items, into_iter_len}
use Rattle.crew.specs.Started.{hired}
use Rattle.crew.specs.Joined.{Reported}
use Rattle.crew.specs.declared.report.WorkerReport.{WorkerReport}
use Rattle.crew.proofs.joining.join_workers.Given as goal

abbrev pub invariant-loop-worker : goal.invariant-loop-worker
invariant-loop-worker g l = let done = vec_len l.reports in let rest = l.worker-iterator in record {
  count : done + into_iter_len rest ≡ vec_len l.fn.workers;
  room : vec_len l.fn.workers ≤ vec_capacity l.reports;
  left : (k : ℕ) (h : _) → k < into_iter_len rest → get_or (into_iter_items rest) k h ≡ get_or l.fn.workers.items (done + k) h;
  same : l.taker ≡ l.fn.taker;
  reports : (k : ℕ) (h : _) (r : WorkerReport) → k < done → Reported (hired (get_or l.fn.workers.items k h).promise) l.fn.taker.got (get_or (vec_items l.reports) k r);
}
