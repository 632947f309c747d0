-- A change as an event.
use Rattle.std.specs.Prelude.{Option, Some, None}
use Rattle.package.specs.declared.change.Change.{Change}
use Rattle.package.specs.declared.change.Change.TheVariants as change
use Rattle.notifier_model.specs.declared.event.Event.{Event}
use Rattle.notifier_model.specs.declared.event.Event.TheVariants as event

-- the event that a change is which a notifier may be told. That a transfer begins follows from its REFER, and that nobody asks
-- for it any more from the end of its usage: neither is an event
abbrev pub told_event : Change → Option Event
told_event (change.Mail m) = Some (event.Mail m)
told_event (change.Begin tag) = None
told_event (change.Step p) = Some (event.Progress p)
told_event (change.Forget tag) = None
