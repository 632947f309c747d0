use Rattle.std.proofs.Common.{◌≡◌, take}
use Rattle.service.specs.Taken.{told_each}
use Rattle.service.proofs.operators.tell_each.Given as goal

abbrev pub invariant-loop-change : goal.invariant-loop-change
invariant-loop-change l = l.told ≡ told_each l.fn.told (take l.change-index l.changes)
