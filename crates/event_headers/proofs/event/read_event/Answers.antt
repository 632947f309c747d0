use Rattle.event_headers.specs.Headers.{IsEvent, EventFits}
use Rattle.event_headers.specs.HeaderReading.{event_of, event_fits}
use Rattle.event_headers.proofs.Events.{event_takes, event_again, event_fit, event_large}
use Rattle.event_headers.proofs.Said.{is_said, is_only}
use Rattle.event_headers.proofs.event.read_event.Goals as goal

pub returns-clause-found : goal.returns-clause-found
returns-clause-found c = is_said IsEvent EventFits event_of event_fits event_takes event_again event_fit event_large c.args.text.now c.event.result c.event.ensures

pub returns-clause-only : goal.returns-clause-only
returns-clause-only c = is_only IsEvent EventFits event_of event_fits event_takes event_again event_fit event_large c.args.text.now c.event.result c.event.ensures
