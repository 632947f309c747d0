use Rattle.std.proofs.Common.{◌≡◌, ◌++◌, take}
use Rattle.std.specs.List.{flat_map}
use Rattle.snapshots.proofs.form.put_each.Given as goal

abbrev pub invariant-loop-element : goal.invariant-loop-element
invariant-loop-element g l = l.out.items ≡ l.fn.out.items ++ flat_map g.T.Form.text (take l.element-index l.elements)
