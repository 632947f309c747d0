use Rattle.std.proofs.Common.{◌≡◌, ℕ, List, map, take, string_bytes}
use Rattle.package.specs.Values.{Progress}
use Rattle.keeper.proofs.steps.copy_tags.Given as goal

abbrev pub invariant-loop-step : goal.invariant-loop-step
invariant-loop-step l = map string_bytes l.tags.items ≡ map (λ (p : Progress). p.tag) (take l.step-index l.steps)
