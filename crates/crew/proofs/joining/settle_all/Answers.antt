use Rattle.std.proofs.Common.{◌≡◌, ℕ, ◌+◌, List, [], ◌∷◌, ◌++◌, length, get_or, rules, arith, length-append, ◌∙◌, subst, below_more}
use Rattle.queues.specs.InboxSeats.{SenderSeat}
use Rattle.crew.specs.Ports.{PortSeats}
use Rattle.crew.specs.AtHome.{SentHome}
use Rattle.crew.specs.Settled.{HaveCome}
use Rattle.crew.specs.declared.report.WorkerReport.{WorkerReport}
use Rattle.crew.proofs.Dealing.{head_is, left_is}
use Rattle.crew.proofs.joining.settle_all.Goals as goal

pub loop-port-preserved : goal.loop-port-preserved
loop-port-preserved c =
    let was = c.loop-port.invariant in let step = c.in-Some.ensures.steps in let one = c.settle_port.ensures in let done : ℕ = length c.loop-port.yielded in
    let grown : length (c.loop-port.yielded ++ c.in-Some.port ∷ []) ≡ done + 1 = length-append c.loop-port.yielded (c.in-Some.port ∷ []) in
    let reports : List WorkerReport = c.args.reports.now in
    let P : List WorkerReport → List SenderSeat → Type 0 = λ r s. HaveCome r s (length r) in
    let Q : ℕ → Type 0 = λ k. (p : PortSeats) → P reports (get_or c.args.ports.items k p).seats in
    let mine : P reports c.in-Some.port.seats = subst (λ (r : List WorkerReport). P r c.in-Some.port.seats) was.same (subst (P c.loop-port.reports) c.into_sents.ensures.seats one.came) in
    let now : Q done = λ p. subst (λ (q : PortSeats). P reports q.seats) (head_is _ _ _ _ _ _ _ was.left step.0 step.1 p) mine in
    let T : ℕ → Type 0 = λ k. (p : PortSeats) → SentHome (get_or c.args.ports.items k p).seats in
    let here : T done = λ p. subst (λ (q : PortSeats). SentHome q.seats) (head_is _ _ _ _ _ _ _ was.left step.0 step.1 p) c.into_sents.ensures.home in
    record {
      count = (let s = step.1 in let w = was.count in omega arith);
      left = left_is _ _ _ _ _ _ _ _ was.left step.0 step.1 grown;
      same = one.same ∙ was.same;
      came = λ k p low. below_more Q done (λ j less q. was.came j q less) now k (omega arith) p;
      home = λ k p low. below_more T done (λ j less q. was.home j q less) here k (omega arith) p;
    }

pub returns-clause-came : goal.returns-clause-came
returns-clause-came c = let s = c.in-None.ensures.steps in let w = c.loop-port.invariant.count in λ k p low. c.loop-port.invariant.came k p (search rules)

pub returns-clause-home : goal.returns-clause-home
returns-clause-home c = let s = c.in-None.ensures.steps in let w = c.loop-port.invariant.count in λ k p low. c.loop-port.invariant.home k p (search rules)
