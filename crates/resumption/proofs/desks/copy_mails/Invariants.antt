use Rattle.std.proofs.Common.{◌≡◌, take}
use Rattle.resumption.proofs.desks.copy_mails.Given as goal

abbrev pub invariant-loop-change : goal.invariant-loop-change
invariant-loop-change l = l.copy.items ≡ take l.change-index l.changes
