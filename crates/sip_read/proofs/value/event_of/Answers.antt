use Rattle.event_headers.specs.Headers.{IsEvent, EventFits}
use Rattle.event_headers.specs.HeaderReading.{event_of, event_fits}
use Rattle.event_headers.proofs.Events.{event_takes, event_again, event_fit, event_large}
use Rattle.sip_read.proofs.Kept.{kept_said}
use Rattle.sip_read.proofs.value.event_of.Goals as goal

pub returns : goal.returns
returns c = kept_said IsEvent EventFits event_of event_fits event_takes event_again event_fit event_large c.args.value.now c.read_event.result c.kept.result c.read_event.ensures.found c.kept.ensures
