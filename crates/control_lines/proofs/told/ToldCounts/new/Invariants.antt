use Rattle.std.proofs.Common.{◌≡◌, take}
use Rattle.control_lines.specs.Told.{AreUntold, untold, rows_in}
use Rattle.control_lines.proofs.told.ToldCounts.new.Given as goal

abbrev pub invariant-loop-name : goal.invariant-loop-name
invariant-loop-name l = AreUntold (take l.name-index l.names) (rows_in l.mailboxes.entries) × (rows_in l.mailboxes.entries ≡ untold (take l.name-index l.names))
