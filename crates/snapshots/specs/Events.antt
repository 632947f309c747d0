-- How an event is written: a letter that tells its case, and its parts.
--
--   event = "q" address request / "r" response / "m" mail / "p" progress / "t" number / "s"
use Rattle.std.specs.Prelude.{◌≡◌, ℕ, Bool, true, List, [], ◌∷◌, ◌++◌, ◌==◌, if◌then◌else◌, Option, Some, None, codes}
use Rattle.std.specs.Str.{byte}
use Rattle.sip_text.specs.Addresses.{IsAddr}
use Rattle.notifier_model.specs.declared.event.Event.{Event}
use Rattle.notifier_model.specs.declared.event.Event.TheVariants.{Request as Comes, Reply, Mail, Progress as Step, Tick, Shut}
use Rattle.snapshots.specs.Forms.{number_text, number_at, IsNumber, address_text, address_at, both_at, case_at}
use Rattle.snapshots.specs.Fields.{is_accept}
use Rattle.snapshots.specs.Messages.{request_text, request_at, IsRequest, response_text, response_at, IsResponse}
use Rattle.snapshots.specs.Changes.{mail_text, mail_at, IsMail, progress_text, progress_at, IsStep}

abbrev pub event_text : Event → List ℕ
event_text (Comes from request) = codes "q" ++ (address_text from ++ request_text request)
event_text (Reply response) = codes "r" ++ response_text response
event_text (Mail change) = codes "m" ++ mail_text change
event_text (Step progress) = codes "p" ++ progress_text progress
event_text (Tick second) = codes "t" ++ number_text second
event_text Shut = codes "s"

-- ---- each case

unfoldable pub comes_at : List ℕ → Option (Event × List ℕ)
comes_at t = case_at (λ p. Comes p.0 p.1) (both_at address_at request_at) t

unfoldable pub reply_at : List ℕ → Option (Event × List ℕ)
reply_at t = case_at (λ r. Reply r) response_at t

unfoldable pub changed_at : List ℕ → Option (Event × List ℕ)
changed_at t = case_at (λ m. Mail m) mail_at t

unfoldable pub stepped_at : List ℕ → Option (Event × List ℕ)
stepped_at t = case_at (λ p. Step p) progress_at t

unfoldable pub tick_at : List ℕ → Option (Event × List ℕ)
tick_at t = case_at (λ n. Tick n) number_at t

-- ---- an event at the front, and what follows

unfoldable pub event_at : List ℕ → Option (Event × List ℕ)
event_at [] = None
event_at (x ∷ xs) =
    if x == byte "q" then comes_at xs
    else if x == byte "r" then reply_at xs
    else if x == byte "m" then changed_at xs
    else if x == byte "p" then stepped_at xs
    else if x == byte "t" then tick_at xs
    else if x == byte "s" then Some (Shut, xs)
    else None

-- ---- which events are read again

-- what the types of its parts tell of it
abbrev pub EventFits : Event → Type 0
EventFits (Comes from request) = IsAddr from × IsRequest request
EventFits (Reply response) = IsResponse response
EventFits (Mail change) = IsMail change
EventFits (Step progress) = IsStep progress
EventFits (Tick second) = IsNumber second
EventFits Shut = Unit {0}

-- the ranges of a request's Accept are tokens in small letters
abbrev pub is_sound : Event → Bool
is_sound (Comes from request) = is_accept request.accept
is_sound (Reply response) = true
is_sound (Mail change) = true
is_sound (Step progress) = true
is_sound (Tick second) = true
is_sound Shut = true

pub record IsEvent (e : Event) : Type 0 where
  pub fits : EventFits e
  pub sound : is_sound e ≡ true
