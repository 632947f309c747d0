use Rattle.std.proofs.Common.{◌≡◌, ◌++◌, take}
use Rattle.keeper.proofs.mailboxes.LastChanges.copy_to.Given as goal

abbrev pub invariant-loop-change : goal.invariant-loop-change
invariant-loop-change l = l.all.items ≡ l.fn.all.items ++ take l.change-index l.self
