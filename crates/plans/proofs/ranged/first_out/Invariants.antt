use Rattle.std.proofs.Common.{take}
use Rattle.std.specs.List.{All}
use Rattle.plans.specs.Ranges.{Fits}
use Rattle.plans.proofs.ranged.first_out.Given as goal

abbrev pub invariant-loop-ranged : goal.invariant-loop-ranged
invariant-loop-ranged l = All Fits (take l.ranged-index l.ranges)
