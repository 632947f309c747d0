use Rattle.std.proofs.Common.{◌≡◌, ◌-◌}
use Rattle.snapshots.specs.Forms.{times_at}
use Rattle.snapshots.proofs.Times.{with_front}
use Rattle.snapshots.proofs.form.cut_times.Given as goal

abbrev pub invariant-loop-element : goal.invariant-loop-element
invariant-loop-element g l = with_front l.elements.items (times_at g.T.Form.at (l.count - l._element) l.rest) ≡ times_at g.T.Form.at l.count l.bytes
