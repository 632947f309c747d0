use Rattle.std.proofs.Common.{refl}
use Rattle.std.specs.List.{All}
use Rattle.std.proofs.lemmas.List.Elements.{All-more}
use Rattle.plans.specs.Ranges.{Fits}
use Rattle.plans.proofs.FirstOut.{first_at, all_at}
use Rattle.plans.proofs.ranged.first_out.Goals as goal

pub returns-then-not-fits-clause-out : goal.returns-then-not-fits-clause-out
returns-then-not-fits-clause-out c = first_at c.args.ranges.now c.loop-ranged.ranged-index _ c.loop-ranged-test.true c.loop-ranged.invariant (λ fits. let e = c.if-not-fits.ensures.1 fits in absurd cc)

pub loop-ranged-preserved : goal.loop-ranged-preserved
loop-ranged-preserved c =
    All-more Fits c.args.ranges.now c.loop-ranged.ranged-index _ c.loop-ranged-test.true c.loop-ranged.invariant (c.if-not-fits.ensures.0 refl)

pub returns-clause-none : goal.returns-clause-none
returns-clause-none c = all_at c.args.ranges.now c.loop-ranged.ranged-index c.loop-ranged.auto.ranged-index-end c.loop-ranged-test.false c.loop-ranged.invariant
