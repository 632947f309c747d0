use Rattle.std.proofs.Common.{refl, ◌∙◌}
use Rattle.service.proofs.Owning.{swept_same, swept_next}
use Rattle.service.proofs.owners.Owners.sweep.Goals as goal

pub loop-init : goal.loop-init
loop-init c = record { swept = λ t. swept_same _ _ _ refl; passed = refl; second = refl }

pub loop-preserved : goal.loop-preserved
loop-preserved c =
    let was = c.loop.invariant in record {
      swept = λ t. swept_next _ _ _ _ _ was.second (was.swept t) (c.look.ensures.swept t);
      passed = c.look.ensures.passed ∙ was.passed;
      second = c.look.ensures.second ∙ was.second;
    }
