use Rattle.std.proofs.Common.{◌≡◌, ◌++◌, map, string_bytes}
use Rattle.plans.specs.Plans.{each_once}
use Rattle.plans.proofs.mailboxes.each_once.Given as goal

abbrev pub invariant-loop-name : goal.invariant-loop-name
invariant-loop-name l = l.once.items ++ map string_bytes l.name-iterator ≡ each_once l.fn.names.items
