use Rattle.std.proofs.Common.{◌≡◌, ◌++◌, take}
use Rattle.std.specs.List.{flat_map}
use Rattle.commands.specs.Runs.{mail_told}
use Rattle.commands.proofs.journal_opened.add_handled.Given as goal

abbrev pub invariant-loop-event : goal.invariant-loop-event
invariant-loop-event l = l.changes.items ≡ l.fn.changes.items ++ flat_map mail_told (take l.event-index l.events)
