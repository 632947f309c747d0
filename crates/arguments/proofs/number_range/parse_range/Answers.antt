use Rattle.std.proofs.Common.{arith}
use Rattle.arguments.proofs.Numerals.{range_halves, numeral_long, numeral_small, if_none}
use Rattle.arguments.proofs.number_range.parse_range.Goals as goal

pub returns-then-width-eq0-clause-none : goal.returns-then-width-eq0-clause-none
returns-then-width-eq0-clause-none c = λ w n m is.
    let from = (range_halves _ _ _ w n m c.in_ok-front.ensures.found is).0 in let long = numeral_long _ w n from in
    grind (arith, c.then-width-eq0.either, long, from.some, from.few)

pub returns-in_err-first-clause-none : goal.returns-in_err-first-clause-none
returns-in_err-first-clause-none c = if_none c.from_residual-in_err-first.result (λ w n m is.
    c.in_err-first.ensures.none w n (range_halves _ _ _ w n m c.in_ok-front.ensures.found is).0)

pub returns-in_err-last-clause-none : goal.returns-in_err-last-clause-none
returns-in_err-last-clause-none c = if_none c.from_residual-in_err-last.result (λ w n m is.
    c.in_err-last.ensures.none w m (range_halves _ _ _ w n m c.in_ok-front.ensures.found is).1)

pub invariant_of-result : goal.invariant_of-result
invariant_of-result c = record { last_fits = numeral_small _ _ _ c.in_ok-last.ensures.found }
