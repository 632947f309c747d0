use Rattle.std.proofs.Common.{◌≡◌, Some, None, sym, ◌∙◌, arith}
use Rattle.notifier_model.proofs.HomeNames.{not_named, is_named}
use Rattle.notifier_model.proofs.homes.tag.worker_named.Goals as goal

pub returns-in_err-numbers-clause-value : goal.returns-in_err-numbers-clause-value
returns-in_err-numbers-clause-value c =
    c.from_residual.ensures ∙ sym (not_named c.args.workers (omega arith) c.args.tag.now None c.in_err-numbers.ensures.worker (λ v below e. absurd (cc)))

pub returns-then-worker-workers-clause-value : goal.returns-then-worker-workers-clause-value
returns-then-worker-workers-clause-value c =
    sym (is_named c.args.workers (omega arith) c.args.tag.now c.in_ok-numbers.numbers.worker c.in_ok-numbers.ensures.worker (omega arith))

pub returns-else-worker-workers-clause-value : goal.returns-else-worker-workers-clause-value
returns-else-worker-workers-clause-value c =
    let w = c.in_ok-numbers.numbers.worker in
    sym (not_named c.args.workers (omega arith) c.args.tag.now (Some w) c.in_ok-numbers.ensures.worker (λ v below e. (let same : w ≡ v = cc in omega arith)))
