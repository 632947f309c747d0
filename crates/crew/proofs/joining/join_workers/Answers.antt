use Rattle.std.proofs.Common.{ℕ, ◌≤◌, get_or, vec_items, vec_len, arith, sym, ◌∙◌, subst}
use Rattle.std.specs.declared.thread.PromisedHandle.{PromisedHandle}
use Rattle.queues.specs.OutboxSeats.{TakerSeat}
use Rattle.crew.specs.Started.{hired}
use Rattle.crew.specs.Joined.{Reported}
use Rattle.crew.specs.declared.end.Done.{Done}
use Rattle.crew.specs.declared.launching.Began.{Began}
use Rattle.crew.specs.declared.report.WorkerReport.{WorkerReport}
use Rattle.crew.proofs.Dealing.{head_is, left_is}
use Rattle.crew.proofs.SeatRows.{each_more}
use Rattle.crew.proofs.joining.join_workers.Goals as goal

abbrev Handle : Type 0
Handle = PromisedHandle Done Began

pub loop-worker-preserved : goal.loop-worker-preserved
loop-worker-preserved g c =
    let was = c.loop-worker.invariant in let step = c.in-Some.ensures.steps in let one = c.join_one.ensures in let push = c.push_reserved.ensures in
    let done : ℕ = vec_len c.loop-worker.reports in let taker : TakerSeat = c.args.taker.now in
    let R : ℕ → WorkerReport → Type 0 = λ k r. (h : Handle) → Reported (hired (get_or c.args.workers.items k h).promise) taker.got r in
    let report : R done c.join_one.result = λ h.
    let P : TakerSeat → Handle → Type 0 = λ t w. Reported (hired w.promise) t.got c.join_one.result in
    subst (P taker) (head_is _ _ _ _ _ _ _ was.left step.0 step.1 h) (subst (λ (t : TakerSeat). P t c.in-Some.worker) was.same one.report) in
    let Q : ℕ → Type 0 = λ n. vec_len c.args.workers ≤ n in
    record {
      count = (let s = step.1 in let w = was.count in let p = push.len in omega arith);
      room = subst Q (sym push.capacity) was.room;
      left = left_is _ _ _ _ _ _ _ _ was.left step.0 step.1 push.len;
      same = one.same ∙ was.same;
      reports = λ k h r low. each_more R (vec_items c.loop-worker.reports) (vec_items c.push_reserved.new.self) c.join_one.result done (vec_len c.push_reserved.new.self) c.loop-worker.reports.ok.0 push.len push.items
          (λ j e less q. was.reports j q e less) report k r low h;
    }
