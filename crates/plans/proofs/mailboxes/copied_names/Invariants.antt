use Rattle.std.proofs.Common.{◌≡◌, map, string_bytes, take}
use Rattle.plans.specs.Plans.{each_once}
use Rattle.plans.proofs.mailboxes.copied_names.Given as goal

abbrev pub invariant-loop-name : goal.invariant-loop-name
invariant-loop-name l = map string_bytes l.set.keys ≡ each_once (take l.name-index l.names)
