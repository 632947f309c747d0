use Rattle.std.proofs.Common.{◌≡◌, ◌++◌, map, string_bytes}
use Rattle.resumption.specs.Told.{held_names}
use Rattle.resumption.proofs.told.held_names.Given as goal

abbrev pub invariant-loop-name : goal.invariant-loop-name
invariant-loop-name l = map string_bytes l.names.items ++ map string_bytes l.name-iterator ≡ held_names l.told.mail
