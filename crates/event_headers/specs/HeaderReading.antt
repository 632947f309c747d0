-- What the readers of the four headers compute, as functions on lists. The grammars (Headers) are what they come to.
use Rattle.std.specs.Prelude.{ℕ, Bool, true, ◌&&◌, List, [], ◌∷◌, Option, Some, None, option_map, Result, Ok, Err, if◌then◌else◌, codes}
use Rattle.event_headers.specs.declared.error.HeaderError.{HeaderError}
use Rattle.event_headers.specs.declared.error.HeaderError.TheVariants as errors
use Rattle.std.specs.Str.{byte, str_to_ascii_lowercase}
use Rattle.sip_text.specs.declared.scan.Class.TheVariants as class
use Rattle.sip_text.specs.Bytes.{is_in}
use Rattle.event_headers.specs.Values.{EventValue, StateValue, Range}
use Rattle.sip_text.specs.Grammar.{Parameter, number_of}
use Rattle.sip_text.specs.Reading.{◌>>=◌, after_byte, after_spaces, trimmed, word_at, word_named, some_of, elements_of, token_with, digits_of, is_in_range}

unfoldable pub event_of : List ℕ → Option EventValue
event_of t = do
  x ← token_with t
  id ← word_named (is_in class.Token) (codes "id") x.1
  Some (record { «package» = x.0; id = id })

-- a state of this word and these parameters
unfoldable pub state_with : List ℕ → List Parameter → Option StateValue
state_with word ps = do
  expires ← word_named (is_in class.Digit) (codes "expires") ps
  reason ← word_named (is_in class.Token) (codes "reason") ps
  retry_after ← word_named (is_in class.Digit) (codes "retry-after") ps
  Some (record { word = str_to_ascii_lowercase word; expires = option_map number_of expires; reason = option_map str_to_ascii_lowercase reason; retry_after = option_map number_of retry_after })

unfoldable pub state_of : List ℕ → Option StateValue
state_of t = do
  x ← token_with t
  state_with x.0 x.1

unfoldable pub expires_of : List ℕ → Option ℕ
expires_of t = do
  digits ← digits_of t
  Some (number_of digits)

-- a range at the front without its parameters, and the rest
unfoldable pub pair_at : List ℕ → Option (Range × List ℕ)
pair_at t = do
  main ← word_at (is_in class.Token) t
  rest ← after_byte (byte "/") (after_spaces main.1)
  sub ← word_at (is_in class.Token) (after_spaces rest)
  Some (record { main = str_to_ascii_lowercase main.0; sub = str_to_ascii_lowercase sub.0 }, sub.1)

-- a range at the front, and the rest
unfoldable pub range_at : List ℕ → Option (Range × List ℕ)
range_at t = do
  range ← pair_at t
  ps ← some_of range.1
  Some (range.0, ps.1)

abbrev pub ranges_of : List ℕ → Option (List Range)
ranges_of [] = Some []
ranges_of (x ∷ xs) = elements_of range_at (x ∷ xs)

abbrev pub accept_of : List ℕ → Option (List Range)
accept_of t = ranges_of (trimmed t)

-- ---- what a reader answers

abbrev pub seconds_fit : Option ℕ → Bool
seconds_fit None = true
seconds_fit (Some n) = is_in_range n

-- seconds that fit, where there are any
abbrev pub kept_seconds : Option ℕ → Option (Option ℕ)
kept_seconds None = Some None
kept_seconds (Some n) = if is_in_range n then Some (Some n) else None

abbrev pub state_fits : StateValue → Bool
state_fits s = seconds_fit s.expires && seconds_fit s.retry_after

abbrev pub expires_fits : ℕ → Bool
expires_fits n = is_in_range n

abbrev pub event_fits : EventValue → Bool
event_fits e = true

abbrev pub ranges_fit : List Range → Bool
ranges_fit ranges = true

-- a value whose numbers fit, or why there is none
abbrev pub outcome : {V : Type 0} → (V → Bool) → Option V → Result V HeaderError
outcome fits None = Err errors.Grammar
outcome fits (Some v) = if fits v then Ok v else Err errors.TooLarge
