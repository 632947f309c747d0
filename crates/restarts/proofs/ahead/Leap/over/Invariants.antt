use Rattle.std.proofs.Common.{◌≡◌}
use Rattle.restarts.specs.Ahead.{all_ahead, left_out}
use Rattle.restarts.proofs.ahead.Leap.over.Given as goal

abbrev pub invariant-loop-row : goal.invariant-loop-row
invariant-loop-row l = record {
  ahead : l.leap.ahead.items ≡ all_ahead l.yielded;
  left_out : l.leap.left_out.items ≡ left_out l.yielded;
}
