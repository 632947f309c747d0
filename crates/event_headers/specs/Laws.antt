-- What is written is read as the same value, for each of the four headers.
use Rattle.std.specs.Prelude.{ℕ, List, Ok, All}
use Rattle.event_headers.specs.Values.{EventValue, StateValue, Range}
use Rattle.event_headers.specs.Headers.{IsEvent, EventFits, IsEventValue, IsState, StateFits, IsStateValue, IsExpires, Fits, IsAccept, RangesFit, IsRangeValue, Says}
use Rattle.event_headers.specs.Written.{event_text, state_text, expires_text, accept_text}

abbrev pub EventIsReadAgain : Type 0
EventIsReadAgain = (e : EventValue) → IsEventValue e → Says IsEvent EventFits (event_text e) (Ok e)

abbrev pub StateIsReadAgain : Type 0
StateIsReadAgain = (s : StateValue) → IsStateValue s → Says IsState StateFits (state_text s) (Ok s)

abbrev pub ExpiresIsReadAgain : Type 0
ExpiresIsReadAgain = (seconds : ℕ) → Fits seconds → Says IsExpires Fits (expires_text seconds) (Ok seconds)

abbrev pub AcceptIsReadAgain : Type 0
AcceptIsReadAgain = (ranges : List Range) → All IsRangeValue ranges → Says IsAccept RangesFit (accept_text ranges) (Ok ranges)
