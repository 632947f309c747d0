-- What a port sends to all workers. Nothing outside this crate speaks of it.
use Rattle.notifier_model.specs.declared.event.Event.{Event}
use Rattle.notifier_model.specs.declared.event.Event.TheVariants as event
use Rattle.crew.specs.declared.port.Call.{Call}
use Rattle.crew.specs.declared.port.Call.TheVariants as call

abbrev pub call_event : Call → Event
call_event (call.Tick now) = event.Tick now
call_event call.Shut = event.Shut
