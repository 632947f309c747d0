use Rattle.std.proofs.Common.{◌≡◌, take}
use Rattle.arguments.specs.Told.{told}
use Rattle.arguments.proofs.told.tell.Given as goal

abbrev pub invariant-loop-change : goal.invariant-loop-change
invariant-loop-change g l = g.P.Package.seen l.mailboxes ≡ told (take l.change-index l.changes) (g.P.Package.seen l.initial.mailboxes)
