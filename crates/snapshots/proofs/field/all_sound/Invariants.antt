use Rattle.std.proofs.Common.{◌≡◌, true, take}
use Rattle.std.specs.List.{AllByRecursion}
use Rattle.snapshots.specs.Fields.{is_range}
use Rattle.snapshots.proofs.field.all_sound.Given as goal

abbrev pub invariant-loop-range : goal.invariant-loop-range
invariant-loop-range l = AllByRecursion (λ r. is_range r ≡ true) (take l.range-index l.ranges)
