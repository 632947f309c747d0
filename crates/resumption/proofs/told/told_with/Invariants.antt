use Rattle.std.proofs.Common.{◌≡◌, ◌++◌, map, string_bytes, take}
use Rattle.resumption.specs.Told.{marks, all_told}
use Rattle.resumption.proofs.told.told_with.Given as goal

abbrev pub invariant-loop-change : goal.invariant-loop-change
invariant-loop-change l = l.mail.items ≡ marks (map string_bytes l.names) ++ all_told (map string_bytes l.names) (take l.change-index l.changes)
