use Rattle.std.proofs.Common.{◌≡◌, take}
use Rattle.service.specs.Made.{names}
use Rattle.service.proofs.made.Made.names.Given as goal

abbrev pub invariant-loop-place : goal.invariant-loop-place
invariant-loop-place l = l.names.items ≡ names (take l.place l.self.told)
