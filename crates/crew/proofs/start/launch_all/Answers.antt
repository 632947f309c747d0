use Rattle.std.proofs.Common.{◌≡◌, ℕ, ◌≤◌, get_or, vec_items, vec_len, arith, ap, sym, ◌∙◌, subst}
use Rattle.std.specs.declared.thread.PromisedHandle.{PromisedHandle}
use Rattle.crew.specs.declared.end.Done.{Done}
use Rattle.crew.specs.declared.launching.Began.{Began}
use Rattle.crew.specs.declared.launching.NewWorker.{NewWorker}
use Rattle.crew.specs.Started.{Hired, hired}
use Rattle.crew.proofs.Dealing.{head_is, left_is}
use Rattle.crew.proofs.SeatRows.{each_more}
use Rattle.crew.proofs.start.launch_all.Goals as goal

abbrev Handle : Type 0
Handle = PromisedHandle Done Began

pub loop-new_worker-preserved : goal.loop-new_worker-preserved
loop-new_worker-preserved g c =
    let was = c.loop-new_worker.invariant in let step = c.in-Some.ensures.steps in let gate = c.in-Some-next.ensures.cases in let push = c.push_reserved.ensures in
    let done : ℕ = vec_len c.loop-new_worker.workers in let one = c.in-Ok.ensures in
    let S : Type 0 = NewWorker g.row.P.Denot in
    let R : ℕ → Handle → Type 0 = λ k h. (s : S) → hired h.promise ≡ record {
      stands = (get_or c.args.new_workers.items k s).token.stands;
      reads = (get_or c.args.new_workers.items k s).receiver;
      posts = (get_or c.args.new_workers.items k s).poster;
    } in
    let here : (s : S) → c.in-Some.new_worker ≡ get_or c.args.new_workers.items done s = head_is _ _ _ _ _ _ _ was.left step.0 step.1 in
    let report : R done c.in-Ok.worker = λ s. (λ j. record { stands = one.stands j; reads = one.inbox j; posts = one.outbox j })
    ∙ ap (λ (q : S). let h : Hired = record { stands = q.token.stands; reads = q.receiver; posts = q.poster } in h) (here s) in
    let Q : ℕ → Type 0 = λ n. vec_len c.args.new_workers ≤ n in
    record {
      count = (let s = step.1 in let w = was.count in let p = push.len in omega arith);
      gates = (let s = gate.1 in let w = was.gates in let p = push.len in omega arith);
      room = subst Q (sym push.capacity) was.room;
      left = left_is _ _ _ _ _ _ _ _ was.left step.0 step.1 push.len;
      launched = λ k h s low. each_more R (vec_items c.loop-new_worker.workers) (vec_items c.push_reserved.new.self) c.in-Ok.worker done (vec_len c.push_reserved.new.self) c.loop-new_worker.workers.ok.0 push.len push.items
          (λ j e less q. was.launched j e q less) report k h low s;
    }
