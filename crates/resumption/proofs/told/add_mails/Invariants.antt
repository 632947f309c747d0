use Rattle.std.proofs.Common.{◌≡◌, ◌++◌, take}
use Rattle.resumption.specs.Told.{mails}
use Rattle.resumption.proofs.told.add_mails.Given as goal

abbrev pub invariant-loop-entry : goal.invariant-loop-entry
invariant-loop-entry l = l.changes.items ≡ l.fn.changes.items ++ mails (take l.entry-index l.entries)
