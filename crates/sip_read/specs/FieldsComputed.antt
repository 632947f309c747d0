-- What the reader computes of the headers that may stand, as functions on lists: None where a value isn't in its grammar, or a number in it is too large.
use Rattle.std.specs.Prelude.{◌≡◌, ℕ, Bool, List, if◌then◌else◌, Option, Some, None, Result, Ok, Err, IfOk}
use Rattle.event_headers.specs.declared.error.HeaderError.{HeaderError}
use Rattle.event_headers.specs.declared.error.HeaderError.TheVariants as header_errors
use Rattle.sip_text.specs.declared.error.NoMemory.{NoMemory}
use Rattle.event_headers.specs.HeaderReading.{event_of, event_fits, expires_of, expires_fits, accept_of, ranges_fit}
use Rattle.event_headers.specs.Values.{EventValue, Range}

-- a value whose numbers fit
abbrev pub kept : {V : Type 0} → (V → Bool) → Option V → Option V
kept fits None = None
kept fits (Some v) = if fits v then Some v else None

abbrev pub event_kept : List ℕ → Option EventValue
event_kept t = kept event_fits (event_of t)

abbrev pub expires_kept : List ℕ → Option ℕ
expires_kept t = kept expires_fits (expires_of t)

abbrev pub accept_kept : List ℕ → Option (List Range)
accept_kept t = kept ranges_fit (accept_of t)

-- a reader's answer, as the value or none
abbrev pub KeptOf : {V : Type 0} → Result V HeaderError → Result (Option V) NoMemory → Type 0
KeptOf (Ok v) r = r ≡ Ok (Some v)
KeptOf (Err header_errors.Grammar) r = r ≡ Ok None
KeptOf (Err header_errors.TooLarge) r = r ≡ Ok None
KeptOf (Err header_errors.NoMemory) r = IfOk r (λ o. ⊥)
