use Rattle.std.proofs.Common.{◌≡◌, length}
use Rattle.digest.proofs.Differences.{Tells}
use Rattle.digest.proofs.comparison.is_same.Given as goal

abbrev pub invariant-loop-i : goal.invariant-loop-i
invariant-loop-i l = (length l.left ≡ length l.right) × Tells l.difference l.i l.left l.right
