use Rattle.std.proofs.Common.{◌≡◌, ℕ, ◌<◌, List, length, get_or, vec_len, sym, ◌∙◌, ap, subst}
use Rattle.std.specs.declared.thread.PromisedHandle.{PromisedHandle}
use Rattle.crew.specs.Ports.{PortSeats}
use Rattle.crew.specs.Settled.{AreSeatsOf, HaveCome}
use Rattle.crew.specs.Started.{Hired, hired}
use Rattle.crew.specs.Joined.{HasEndOf, IsJoined}
use Rattle.crew.specs.declared.end.Done.{Done}
use Rattle.crew.specs.declared.launching.Began.{Began}
use Rattle.crew.specs.declared.report.WorkerReport.{WorkerReport}
use Rattle.crew.proofs.Reporting.{Reports, rows_are, seats_fit, joined, image_at, images_are, written_back}
use Rattle.crew.proofs.start.Crew.join.Goals as goal

abbrev Handle : Type 0
Handle = PromisedHandle Done Began

pub join_workers-reports-requires-clause-taker : goal.join_workers-reports-requires-clause-taker
join_workers-reports-requires-clause-taker g c k h low =
    let parts = c.into_parts-workers.result.0 in let crew : List Hired = c.args.self in let is = c.into_parts-workers.ensures.workers in
    let inside : k < length parts.items = subst (λ n. k < n) parts.ok.0 low in
    let P : Hired → Type 0 = λ x. HasEndOf c.args.taker x in
    let f : Handle → Hired = λ w. hired w.promise in
    subst P (sym (image_at f parts.items crew k h (f h) is inside)) (c.requires.ended k (f h) (subst (λ n. k < n) (sym (images_are f parts.items crew is)) inside))

pub settle_all-requires-clause-seats : goal.settle_all-requires-clause-seats
settle_all-requires-clause-seats g c k p low =
    let parts = c.into_parts-workers.result.0 in let j = c.join_workers-reports.ensures in let reports = c.join_workers-reports.result in let f : Handle → Hired = λ w. hired w.promise in
    let all : Reports c.args.self c.args.taker.got reports.items = rows_are f parts.items c.args.self c.args.taker.got reports.items (vec_len parts) (vec_len reports) c.into_parts-workers.ensures.workers parts.ok.0 j.len reports.ok.0 j.reports in
    let P : List WorkerReport → Type 0 = λ l. AreSeatsOf l (get_or c.args.ports.items k p).seats in
    subst P (sym c.as_mut_slice.ensures.value) (seats_fit all (get_or c.args.ports.items k p) (c.requires.ports k p low))

pub returns : goal.returns
returns g c =
    let parts = c.into_parts-workers.result.0 in let j = c.join_workers-reports.ensures in let reports = c.join_workers-reports.result in let f : Handle → Hired = λ w. hired w.promise in
    let ports : List PortSeats = c.args.ports.items in
    let all : Reports c.args.self c.args.taker.got reports.items = rows_are f parts.items c.args.self c.args.taker.got reports.items (vec_len parts) (vec_len reports) c.into_parts-workers.ensures.workers parts.ok.0 j.len reports.ok.0 j.reports in
    let value : c.as_mut_slice.result.now ≡ reports.items = c.as_mut_slice.ensures.value in
    let now : c.settle_all.new.reports ≡ reports.items = c.settle_all.ensures.same ∙ value in
    let back = written_back reports.len c.settle_all.new.reports reports.items (ap length now ∙ sym reports.ok.0) in
    let Q : List WorkerReport → Type 0 = λ l. (p : ℕ) (q : PortSeats) → p < vec_len c.args.ports → HaveCome l (get_or ports p q).seats (length l) in
    let came : Q reports.items = subst Q value c.settle_all.ensures.came in
    let P : List WorkerReport → Type 0 = λ l. IsJoined c.args.self ports c.args.taker.got l in
    subst P (sym (back ∙ now))
    (joined all ports (λ p q low. c.requires.ports p q (subst (λ n. p < n) (sym c.args.ports.ok.0) low)) (λ p q low. came p q (subst (λ n. p < n) (sym c.args.ports.ok.0) low))
    (λ p q low. c.settle_all.ensures.home p q (subst (λ n. p < n) (sym c.args.ports.ok.0) low)))
