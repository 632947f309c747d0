use Rattle.std.proofs.Common.{◌≡◌, vec_len}
use Rattle.crew.proofs.fitting.gates.Given as goal

abbrev pub invariant-loop-at : goal.invariant-loop-at
invariant-loop-at g l = vec_len l.gates ≡ l.at
