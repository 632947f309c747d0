use Rattle.std.proofs.Common.{◌≡◌, take}
use Rattle.resumption.proofs.Telling.{text_marks}
use Rattle.resumption.proofs.told.marks.Given as goal

abbrev pub invariant-loop-name : goal.invariant-loop-name
invariant-loop-name l = l.entries.items ≡ text_marks (take l.name-index l.names)
