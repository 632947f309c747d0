use Rattle.std.proofs.Common.{◌≡◌, map, string_bytes, take}
use Rattle.resumption.specs.Told.{each_once}
use Rattle.resumption.proofs.told.name_set.Given as goal

abbrev pub invariant-loop-name : goal.invariant-loop-name
invariant-loop-name l = map string_bytes l.set.keys ≡ each_once (map string_bytes (take l.name-index l.names))
