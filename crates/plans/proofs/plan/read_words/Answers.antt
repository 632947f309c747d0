use Rattle.std.proofs.lemmas.Result.{err_from_is_err_and}
use Rattle.plans.proofs.Refused.{of_further_is}
use Rattle.plans.proofs.plan.read_words.Goals as goal

pub returns-in_err-check_watched-clause-refused : goal.returns-in_err-check_watched-clause-refused
returns-in_err-check_watched-clause-refused g c =
    let any = rw c.as_slice-4.ensures.value at c.in_err-check_watched.ensures.any in
    let is = rw (c.as_slice-4.ensures.value, c.as_slice-5.ensures.value) at c.in_err-check_watched.ensures.refused in
    let named = rw c.as_slice.ensures.value at c.in_ok-mailboxes.ensures.names in
    let p = err_from_is_err_and c.from_residual-in_err-check_watched.result c.from_residual-in_err-check_watched.ensures.1 in
    rw (p.1, p.2) (of_further_is c.args.words.now c.in_ok-settings.settings.items _ _ c.in_ok-settings.ensures.found named (λ yes. let no = any yes in absurd cc) is)
