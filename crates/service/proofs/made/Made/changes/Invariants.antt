use Rattle.std.proofs.Common.{◌≡◌, take}
use Rattle.std.specs.Int.NonZero.{non_zero_u32_get}
use Rattle.service.specs.Made.{worker_changes}
use Rattle.service.proofs.made.Made.changes.Given as goal

abbrev pub invariant-loop-place : goal.invariant-loop-place
invariant-loop-place l = l.changes.items ≡ worker_changes (non_zero_u32_get l.self.workers) l.worker (take l.place l.self.told)
