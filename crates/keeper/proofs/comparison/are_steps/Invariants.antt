use Rattle.keeper.proofs.Same.{IsLeft}
use Rattle.keeper.proofs.comparison.are_steps.Given as goal

abbrev pub invariant-loop-step : goal.invariant-loop-step
invariant-loop-step l = IsLeft l.some l.others l.step-index l.rest
