use Rattle.std.proofs.Common.{◌≡◌, ◌++◌, take}
use Rattle.std.specs.List.{flat_map}
use Rattle.commands.specs.Runs.{mailbox_named}
use Rattle.commands.proofs.journal_opened.add_names.Given as goal

abbrev pub invariant-loop-change : goal.invariant-loop-change
invariant-loop-change l = l.names.items ≡ l.fn.names.items ++ flat_map mailbox_named (take l.change-index l.changes)
