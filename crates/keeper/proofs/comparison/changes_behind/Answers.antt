use Rattle.keeper.proofs.Same.{at_first, one_more}
use Rattle.keeper.proofs.comparison.changes_behind.Goals as goal

pub loop-change-init : goal.loop-change-init
loop-change-init c = at_first c.args.front.now c.args.all.now

pub loop-change-preserved : goal.loop-change-preserved
loop-change-preserved c =
    let at = c.loop-change in
    one_more c.args.front.now c.args.all.now at.change-index c.change-item.result c.loop-change-test.true c.change-item.is
    c.in-Some.first.now at.rest.now c.in-Some.behind.now c.in-Some.ensures.cases.0 (c.is_change.ensures.0 c.if-not-is_change.false) at.invariant
