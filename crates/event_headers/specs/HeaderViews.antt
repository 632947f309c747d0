-- What contracts see of the headers' values, which borrow from the text.
use Rattle.std.specs.Prelude.{option_map}
use Rattle.std.specs.Str.{str_to_ascii_lowercase}
use Rattle.event_headers.specs.declared.written_range.WrittenRange.{WrittenRange}
use Rattle.event_headers.specs.declared.event.WrittenEvent.{WrittenEvent}
use Rattle.event_headers.specs.declared.state.WrittenState.{WrittenState}
use Rattle.sip_text.specs.Grammar.{number_of}
use Rattle.event_headers.specs.Values.{EventValue, StateValue, Range}

abbrev pub event_seen : WrittenEvent → EventValue
event_seen e = record { «package» = e.«package».now; id = option_map (λ t. t.now) e.id }

-- the word and the reason in small letters, the digits as numbers
abbrev pub state_seen : WrittenState → StateValue
state_seen s = record { word = str_to_ascii_lowercase s.word.now; expires = option_map (λ t. number_of t.now) s.expires; reason = option_map (λ t. str_to_ascii_lowercase t.now) s.reason; retry_after = option_map (λ t. number_of t.now) s.retry_after }

-- in small letters
abbrev pub range_seen : WrittenRange → Range
range_seen r = record { main = str_to_ascii_lowercase r.main.now; sub = str_to_ascii_lowercase r.sub.now }
