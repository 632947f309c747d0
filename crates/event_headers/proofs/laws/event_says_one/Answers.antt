use Rattle.event_headers.specs.Headers.{IsEvent, EventFits}
use Rattle.event_headers.specs.HeaderReading.{event_of, event_fits}
use Rattle.event_headers.proofs.Events.{event_takes, event_again, event_fit, event_large}
use Rattle.event_headers.proofs.Said.{exact}
use Rattle.event_headers.proofs.laws.event_says_one.Goals as goal

pub returns : goal.returns
returns c = exact IsEvent EventFits event_of event_fits event_takes event_again event_fit event_large
