use Rattle.std.proofs.Common.{◌≡◌, vec_len, arith, ap, sym, ◌∙◌}
use Rattle.queues.specs.OutboxSeats.{TakerSeat}
use Rattle.crew.proofs.Starting.{element}
use Rattle.crew.proofs.Keeping.{started_end}
use Rattle.examples_crew.proofs.running.run.Goals as goal

pub take_all-requires-clause-none : goal.take_all-requires-clause-none
take_all-requires-clause-none g c =
    let none = c.in_ok-crew.ensures.no_workers.1 in let was = c.in_ok-crew.was in let some : vec_len c.in_ok-boxes.boxes ≡ 0 → ⊥ = λ z. let e = none z in cc in let size = c.in_ok-boxes.boxes.ok.0 in
    let started = c.in_ok-crew.ensures.started (element c.in_ok-boxes.boxes.items 0 (omega arith)) in
    ap (λ (t : TakerSeat). t.got) started.takes

pub take_all-requires-clause-workers : goal.take_all-requires-clause-workers
take_all-requires-clause-workers g c =
    let none = c.in_ok-crew.ensures.no_workers.1 in let was = c.in_ok-crew.was in let some : vec_len c.in_ok-boxes.boxes ≡ 0 → ⊥ = λ z. let e = none z in cc in let size = c.in_ok-boxes.boxes.ok.0 in
    let started = c.in_ok-crew.ensures.started (element c.in_ok-boxes.boxes.items 0 (omega arith)) in
    c.len-workers.ensures ∙ sym (ap (λ (t : TakerSeat). t.workers) started.takes)

pub join-report-requires-clause-ended : goal.join-report-requires-clause-ended
join-report-requires-clause-ended g c =
    let none = c.in_ok-crew.ensures.no_workers.1 in let was = c.in_ok-crew.was in let some : vec_len c.in_ok-boxes.boxes ≡ 0 → ⊥ = λ z. let e = none z in cc in let size = c.in_ok-boxes.boxes.ok.0 in
    let started = c.in_ok-crew.ensures.started (element c.in_ok-boxes.boxes.items 0 (omega arith)) in
    started_end started c.take_all.new.taker c.take_all.ensures.outbox c.take_all.ensures.ended
