use Rattle.std.proofs.Common.{◌≡◌, ◌++◌, map, take}
use Rattle.package.specs.declared.change.Change.TheVariants as change
use Rattle.resumption.proofs.told.add_steps.Given as goal

abbrev pub invariant-loop-step : goal.invariant-loop-step
invariant-loop-step l = l.changes.items ≡ l.fn.changes.items ++ map (λ p. change.Step p) (take l.step-index l.steps)
