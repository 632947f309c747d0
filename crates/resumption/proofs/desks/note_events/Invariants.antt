use Rattle.std.proofs.Common.{◌≡◌, take}
use Rattle.resumption.specs.Noted.{passed_all}
use Rattle.resumption.proofs.desks.note_events.Given as goal

abbrev pub invariant-loop-event : goal.invariant-loop-event
invariant-loop-event l = l.keeper ≡ passed_all l.worker (take l.event-index l.events) l.initial.keeper
