use Rattle.std.proofs.Common.{◌≡◌, ℕ, vec_len, arith, ap, sym, ◌∙◌}
use Rattle.crew.proofs.Starting.{element}
use Rattle.examples_crew.proofs.TwoSenders.{so_started}
use Rattle.examples_crew.proofs.handed.handed_ports.Goals as goal

pub join_both-report-requires-clause-some : goal.join_both-report-requires-clause-some
join_both-report-requires-clause-some g c =
    let none = c.in_ok-crew.ensures.no_workers.1 in let was = c.in_ok-crew.was in
    let some : vec_len c.in_ok-boxes.boxes ≡ 0 → ⊥ = λ z. let e = none z in cc in
    let workers = c.len-workers.ensures in omega arith

pub join_both-report-requires-clause-started : goal.join_both-report-requires-clause-started
join_both-report-requires-clause-started g c =
    let none = c.in_ok-crew.ensures.no_workers.1 in let was = c.in_ok-crew.was in
    let some : vec_len c.in_ok-boxes.boxes ≡ 0 → ⊥ = λ z. let e = none z in cc in let size = c.in_ok-boxes.boxes.ok.0 in
    let started = c.in_ok-crew.ensures.started (element c.in_ok-boxes.boxes.items 0 (omega arith)) in
    let crew = c.in_ok-crew in
    so_started _ _ _ crew.crew crew.ports.items crew.taker (sym c.len-workers.ensures) started
