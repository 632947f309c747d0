use Rattle.std.proofs.Common.{◌≡◌, Some}
use Rattle.event_headers.specs.Headers.{IsEventValue}
use Rattle.event_headers.specs.HeaderReading.{event_of}
use Rattle.event_headers.specs.HeaderViews.{event_seen}
use Rattle.event_headers.proofs.Events.{event_takes, event_is_value}
use Rattle.event_headers.proofs.event.event.Goals as goal

pub of-requires-2 : goal.of-requires-2
of-requires-2 c =
    let is : event_of c.args.text.now ≡ Some (event_seen c.in-Some.written) = rw c.in-Some.is at c.in_ok-written.ensures in
    let valid : IsEventValue (event_seen c.in-Some.written) = event_is_value c.args.text.now (event_seen c.in-Some.written) (event_takes c.args.text.now (event_seen c.in-Some.written) is) in
    rw (c.in_ok-package.ensures, c.in_ok-id.ensures) valid
