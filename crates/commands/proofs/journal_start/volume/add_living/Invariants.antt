use Rattle.std.proofs.Common.{◌≡◌, ◌++◌, map}
use Rattle.std.specs.Vec.Iter.{into_iter_items}
use Rattle.commands.specs.Begun.{living_row}
use Rattle.commands.proofs.journal_start.volume.add_living.Given as goal

abbrev pub invariant-loop-row : goal.invariant-loop-row
invariant-loop-row l = l.living.items ++ map living_row (into_iter_items l.row-iterator) ≡ l.fn.living.items ++ map living_row l.fn.rows.items
