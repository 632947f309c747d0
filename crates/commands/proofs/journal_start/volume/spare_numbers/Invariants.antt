use Rattle.std.proofs.Common.{◌≡◌, ℕ, filter, nat_lt, take}
use Rattle.commands.proofs.journal_start.volume.spare_numbers.Given as goal

abbrev pub invariant-loop-other : goal.invariant-loop-other
invariant-loop-other l = l.spare.items ≡ filter (λ (other : ℕ). nat_lt l.number other) (take l.other-index l.numbers)
