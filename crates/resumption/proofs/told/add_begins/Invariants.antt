use Rattle.std.proofs.Common.{◌≡◌, ◌++◌, take}
use Rattle.resumption.specs.Told.{begins}
use Rattle.resumption.proofs.told.add_begins.Given as goal

abbrev pub invariant-loop-row : goal.invariant-loop-row
invariant-loop-row l = l.changes.items ≡ l.fn.changes.items ++ begins (take l.row-index l.rows)
