use Rattle.std.proofs.Common.{◌≡◌, take}
use Rattle.resumption.specs.Told.{watched}
use Rattle.resumption.proofs.told.watched.Given as goal

abbrev pub invariant-loop-step : goal.invariant-loop-step
invariant-loop-step l = l.left.items ≡ watched l.rows (take l.step-index l.steps)
