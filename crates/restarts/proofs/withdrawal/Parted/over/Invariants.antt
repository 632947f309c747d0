use Rattle.std.proofs.Common.{◌≡◌, map, filter, not}
use Rattle.restarts.specs.Withdrawn.{is_held}
use Rattle.restarts.proofs.withdrawal.Parted.over.Given as goal

abbrev pub invariant-loop-row : goal.invariant-loop-row
invariant-loop-row g l = record {
  held : l.parted.held.items ≡ filter (is_held (map g.P.Package.seen l.teller.boxes.now.items)) l.yielded;
  others : l.parted.others.items ≡ filter (λ row. not (is_held (map g.P.Package.seen l.teller.boxes.now.items) row)) l.yielded;
}
