use Rattle.std.proofs.Common.{◌≡◌, map, take}
use Rattle.restarts.specs.Living.{known}
use Rattle.restarts.proofs.living.Living.each.Given as goal

abbrev pub invariant-loop-row : goal.invariant-loop-row
invariant-loop-row l = l.all.items ≡ map (known l.clock) (map (λ row. row.now) (take l.row-index l.rows))
