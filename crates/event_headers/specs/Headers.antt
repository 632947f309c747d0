-- The grammars of the event headers, as relations between a text and the value that it says. Numbers have no bound here; a kept number
-- that a header's value can't hold (2 ^ 32 and more) is too large.
use Rattle.std.specs.Prelude.{◌≡◌, ◌<◌, ◌^◌, ℕ, List, [], ◌∷◌, ◌++◌, Option, option_map, Result, Ok, Err, IfSome, codes}
use Rattle.std.specs.Str.{byte, str_to_ascii_lowercase}
use Rattle.event_headers.specs.declared.error.HeaderError.{HeaderError}
use Rattle.event_headers.specs.declared.error.HeaderError.TheVariants as errors
use Rattle.sip_text.specs.declared.scan.Class.TheVariants as class
use Rattle.event_headers.specs.Values.{EventValue, StateValue, Range}
use Rattle.sip_text.specs.Grammar.{AreSpaces, IsWord, IsTrimmed, Parameter, AreParameters, IsWordNamed, AreElements, number_of, IsTokenWith, IsToken, IsSmallToken}

-- ---- Event and Subscription-State

-- Event (RFC 6665 section 8.4): the package, and the id, which is a token, if a parameter has this name. At most one has it. The others are
-- dropped. Names of parameters ignore case.
--   Event = event-type *(SEMI event-param)
abbrev pub IsEvent : List ℕ → EventValue → Type 0
IsEvent text e = (parameters : List Parameter) × IsTokenWith text e.package parameters × IsWordNamed class.Token (codes "id") parameters e.id

-- Subscription-State (RFC 6665 section 8.4), where word and reason are kept in small letters. At most one parameter has each of the three names;
-- the others are dropped.
--   Subscription-State = substate-value *(SEMI subexp-params)
--   subexp-params = ("reason" EQUAL event-reason-value) / ("expires" EQUAL delta-seconds) / ("retry-after" EQUAL delta-seconds) / generic-param
pub record IsState (text : List ℕ) (s : StateValue) : Type 0 where
  pub word : List ℕ
  pub parameters : List Parameter
  pub expires : Option (List ℕ)
  pub reason : Option (List ℕ)
  pub retry_after : Option (List ℕ)
  pub is : IsTokenWith text word parameters
  pub is_expires : IsWordNamed class.Digit (codes "expires") parameters expires
  pub is_reason : IsWordNamed class.Token (codes "reason") parameters reason
  pub is_retry_after : IsWordNamed class.Digit (codes "retry-after") parameters retry_after
  pub kept : s ≡ record { word = str_to_ascii_lowercase word; expires = option_map number_of expires; reason = option_map str_to_ascii_lowercase reason; retry_after = option_map number_of retry_after }

-- ---- Expires

-- Expires (RFC 3261 section 20.19), in seconds:
--   WS 1*DIGIT WS
pub record IsExpires (text : List ℕ) (seconds : ℕ) : Type 0 where
  pub left : List ℕ
  pub digits : List ℕ
  pub right : List ℕ
  pub spaces_left : AreSpaces left
  pub spaces_right : AreSpaces right
  pub are_digits : IsWord class.Digit digits
  pub kept : seconds ≡ number_of digits
  pub whole : text ≡ left ++ (digits ++ right)

-- ---- Accept

-- accept-range (RFC 3261 section 20.1), where `*` is a token like another. Both tokens are kept in small letters; the parameters are dropped.
--   accept-range = token WS "/" WS token *param
pub record IsRange (text : List ℕ) (r : Range) : Type 0 where
  pub main : List ℕ
  pub left : List ℕ
  pub right : List ℕ
  pub sub : List ℕ
  pub behind : List ℕ
  pub parameters : List Parameter
  pub is_main : IsWord class.Token main
  pub is_sub : IsWord class.Token sub
  pub spaces_left : AreSpaces left
  pub spaces_right : AreSpaces right
  pub are : AreParameters behind parameters
  pub small_main : r.main ≡ str_to_ascii_lowercase main
  pub small_sub : r.sub ≡ str_to_ascii_lowercase sub
  pub whole : text ≡ main ++ (left ++ byte "/" ∷ (right ++ (sub ++ behind)))

-- no range, or ranges at commas
abbrev pub AreRanges : List ℕ → List Range → Type 0
AreRanges text [] = text ≡ []
AreRanges text (r ∷ rs) = AreElements IsRange text (r ∷ rs)

-- Accept (RFC 3261 section 20.1):
--   Accept = WS [accept-range *(COMMA accept-range)] WS
pub record IsAccept (text : List ℕ) (ranges : List Range) : Type 0 where
  pub left : List ℕ
  pub value : List ℕ
  pub right : List ℕ
  pub spaces_left : AreSpaces left
  pub spaces_right : AreSpaces right
  pub trimmed : IsTrimmed value
  pub are : AreRanges value ranges
  pub whole : text ≡ left ++ (value ++ right)

-- ---- what a text says

-- it fits in 32 bits
abbrev pub Fits : ℕ → Type 0
Fits n = n < 2 ^ 32

-- an Event and an Accept keep no number
abbrev pub EventFits : EventValue → Type 0
EventFits e = Unit {0}

abbrev pub RangesFit : List Range → Type 0
RangesFit ranges = Unit {0}

abbrev pub StateFits : StateValue → Type 0
StateFits s = IfSome s.expires Fits × IfSome s.retry_after Fits

-- What a text says, by the relation Is of a header and whether a value's numbers fit: this value, or Grammar where no value is said, or
-- TooLarge where one is said whose numbers don't fit. Want of memory is no matter of the text.
abbrev pub Says : {V : Type 0} → (List ℕ → V → Type 0) → (V → Type 0) → List ℕ → Result V HeaderError → Type 0
Says Is Fits text (Ok v) = Is text v × Fits v
Says {V} Is Fits text (Err errors.Grammar) = (v : V) → ¬ (Is text v)
Says {V} Is Fits text (Err errors.TooLarge) = (v : V) × Is text v × (¬ (Fits v))
Says Is Fits text (Err errors.NoMemory) = ⊥

-- what was answered is said, unless a growth was refused
abbrev pub IsSaid : {V : Type 0} → (List ℕ → V → Type 0) → (V → Type 0) → List ℕ → Result V HeaderError → Type 0
IsSaid Is Fits text (Ok v) = Says Is Fits text (Ok v)
IsSaid Is Fits text (Err errors.Grammar) = Says Is Fits text (Err errors.Grammar)
IsSaid Is Fits text (Err errors.TooLarge) = Says Is Fits text (Err errors.TooLarge)
IsSaid Is Fits text (Err errors.NoMemory) = Unit {0}

-- this was answered, unless a growth was refused
abbrev pub Answers : {V : Type 0} → Result V HeaderError → Result V HeaderError → Type 0
Answers (Err errors.NoMemory) said = Unit {0}
Answers (Ok v) said = Ok v ≡ said
Answers {V} (Err errors.Grammar) said = Err errors.Grammar ≡ said
Answers {V} (Err errors.TooLarge) said = Err errors.TooLarge ≡ said

-- each text says exactly one of a value, Grammar, TooLarge
abbrev pub IsExact : {V : Type 0} → (List ℕ → V → Type 0) → (V → Type 0) → Type 0
IsExact {V} Is Fits = (text : List ℕ) → (r : Result V HeaderError) × Says Is Fits text r × ((q : Result V HeaderError) → Says Is Fits text q → q ≡ r)

-- ---- which values there are

abbrev pub IsEventValue : EventValue → Type 0
IsEventValue e = IsToken e.package × IfSome e.id IsToken

abbrev pub IsStateValue : StateValue → Type 0
IsStateValue s = IsSmallToken s.word × IfSome s.expires Fits × IfSome s.reason IsSmallToken × IfSome s.retry_after Fits

abbrev pub IsRangeValue : Range → Type 0
IsRangeValue r = IsSmallToken r.main × IsSmallToken r.sub
