use Rattle.std.proofs.Common.{rules}
use Rattle.keeper.proofs.Same.{at_first, one_more, too_short, unlike, all_same}
use Rattle.keeper.proofs.comparison.are_steps.Goals as goal

pub loop-step-init : goal.loop-step-init
loop-step-init c = at_first c.args.some.now c.args.others.now

pub loop-step-preserved : goal.loop-step-preserved
loop-step-preserved c =
    let at = c.loop-step in
    one_more c.args.some.now c.args.others.now at.step-index c.step-item.result c.loop-step-test.true c.step-item.is
    c.in-Some.first.now at.rest.now c.in-Some.behind.now c.in-Some.ensures.cases.0 (c.is_step.ensures.0 c.if-not-is_step.false) at.invariant

pub returns-in_default : goal.returns-in_default
returns-in_default c =
    let at = c.loop-step in
    let differ = too_short c.args.some.now c.args.others.now at.step-index c.step-item.result at.rest.now c.loop-step-test.true c.step-item.is c.in_default.ensures.cases at.invariant in
    (λ e. absurd cc, λ e. absurd (differ e))

pub returns-then-not-is_step : goal.returns-then-not-is_step
returns-then-not-is_step c =
    let at = c.loop-step in
    let differ = unlike c.args.some.now c.args.others.now at.step-index c.step-item.result c.in-Some.first.now at.rest.now c.in-Some.behind.now
    c.loop-step-test.true c.step-item.is c.in-Some.ensures.cases.0 (λ e. search rules) at.invariant in
    (λ e. absurd cc, λ e. absurd (differ e))

pub returns : goal.returns
returns c =
    let at = c.loop-step in
    all_same c.args.some.now c.args.others.now at.step-index at.rest.now c.is_empty.result (search rules) (search rules) at.invariant
