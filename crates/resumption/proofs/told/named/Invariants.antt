use Rattle.std.proofs.Common.{◌≡◌, map, string_bytes, take}
use Rattle.resumption.specs.Told.{held_names}
use Rattle.resumption.proofs.told.named.Given as goal

abbrev pub invariant-loop-entry : goal.invariant-loop-entry
invariant-loop-entry l = map string_bytes l.set.keys ≡ held_names (take l.entry-index l.entries)
