use Rattle.std.proofs.Common.{◌≡◌, map, string_bytes, take}
use Rattle.resumption.specs.Told.{tags}
use Rattle.resumption.proofs.told.transfer_tags.Given as goal

abbrev pub invariant-loop-row : goal.invariant-loop-row
invariant-loop-row l = map string_bytes l.tags.items ≡ tags (take l.row-index l.rows)
