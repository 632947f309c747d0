use Rattle.std.proofs.Common.{◌≡◌, Some}
use Rattle.event_headers.specs.Headers.{IsStateValue}
use Rattle.event_headers.specs.HeaderReading.{state_of, kept_seconds}
use Rattle.event_headers.specs.HeaderViews.{state_seen}
use Rattle.event_headers.proofs.States.{state_takes, state_is_value, kept_is}
use Rattle.event_headers.proofs.state.state.Goals as goal

pub of-requires : goal.of-requires
of-requires c =
    let t = c.args.text.now in
    let s = state_seen c.in-Some.written in
    let is : state_of t ≡ Some s = rw c.in-Some.is at c.in_ok-written.ensures in
    let first : kept_seconds s.expires ≡ Some c.in-Some-kept_seconds.expires = cc in
    let second : kept_seconds s.retry_after ≡ Some c.in-Some-kept_seconds-2.retry_after = cc in
    let a = kept_is s.expires c.in-Some-kept_seconds.expires first in
    let b = kept_is s.retry_after c.in-Some-kept_seconds-2.retry_after second in
    let valid : IsStateValue s = state_is_value t s (state_takes t s is) (a.1, b.1) in
    rw (c.in_ok-word.ensures, c.in_ok-reason.ensures, a.0, b.0) valid
