-- The life of one subscription (RFC 6665 section 4.2): what befell it, newest first, and what follows from that alone.
-- It knows no book, no table and no other subscription.
use Rattle.std.specs.Prelude.{ℕ, ◌+◌, Bool, true, false, not, ◌&&◌, ◌||◌, List, [], ◌∷◌, ◌++◌, filter, is_some, is_none, if◌then◌else◌, nat_lt, nat_le, ◌==◌, Some, None, codes, bytes_eq, Option}
use Rattle.std.specs.List.{list_all, list_any}
use Rattle.event_headers.specs.Values.{EventValue}
use Rattle.sip_text.specs.declared.address.Addr.{Addr}
use Rattle.sip_read.specs.declared.message.Request.{Request}
use Rattle.package.specs.Content.{is_final}
use Rattle.package.specs.Values.{Progress}
use Rattle.subscription.specs.declared.notify.Reason.{Reason}
use Rattle.subscription.specs.declared.notify.Reason.TheVariants.{Timeout, Noresource, Deactivated}
use Rattle.notifier_model.specs.Limits.{Limits}
use Rattle.notifier_model.specs.Start.{patience}
use Rattle.notifier_model.specs.declared.row.Unanswered.{Unanswered}
use Rattle.notifier_model.specs.Fields.{value_of, or_empty}
use Rattle.notifier_model.specs.Requests.{event_of, user_part, is_of_refer, asked, granted, asks_nothing, is_unwatched, denial}

-- What may befall it once it is born: it hears a request in its dialog; what its mailbox holds changes; there is word of its
-- transfer; its time is up; the NOTIFY with this number is answered; a 481 to a NOTIFY disowns it; a NOTIFY stays unanswered
-- for too long; the notifier stops as planned.
pub data Deed : Type 0 where
  Heard : (source : Addr) (request : Request) → Deed
  MailChanged : Deed
  Progressed : (progress : Progress) → Deed
  Due : Deed
  Answered : (number : ℕ) → Deed
  Disowned : Deed
  Lost : Deed
  Stopped : Deed

-- it was born of a request outside a dialog, and then this befell it, each at its moment
pub data Life : Type 0 where
  Born : (moment : ℕ) (source : Addr) (request : Request) → Life
  Then : (moment : ℕ) (deed : Deed) (before : Life) → Life

-- ---- what it is

-- the request that it was born of
unfoldable pub birth : Life → Request
birth (Born t source r) = r
birth (Then t deed l) = birth l

-- its package and `id`
abbrev pub event_of_life : Life → EventValue
event_of_life l = event_of (birth l)

-- the mailbox that it watches, which its Request-URI names; one of `refer` watches none, but its own transfer
unfoldable pub mailbox : Life → Option (List ℕ)
mailbox l = if is_of_refer (event_of_life l) then None else Some (user_part (birth l).uri)

-- ---- what it heard (RFC 6665 section 4.2.1.4)

-- a request, when it came and from where
pub record Hearing : Type 0 where
  pub moment : ℕ
  pub source : Addr
  pub request : Request

abbrev pub hearing : ℕ → Addr → Request → Hearing
hearing t source r = record { moment = t; source = source; request = r }

-- the last request that it heard and that passes the test, else the one that it was born of
unfoldable pub last_heard : (Request → Bool) → Life → Hearing
last_heard test (Born t source r) = hearing t source r
last_heard test (Then t (Heard source r) l) = if test r then hearing t source r else last_heard test l
last_heard test (Then t deed l) = last_heard test l

-- the CSeq of the birth, and that of each request that it heard
unfoldable pub cseqs : Life → List ℕ
cseqs (Born t source r) = r.head.cseq ∷ []
cseqs (Then t (Heard source r) l) = r.head.cseq ∷ cseqs l
cseqs (Then t deed l) = cseqs l

-- is this CSeq above all of them?
unfoldable pub is_above : Life → ℕ → Bool
is_above l cseq = list_all (λ heard. nat_lt heard cseq) (cseqs l)

-- Does it accept this request? A SUBSCRIBE with its own package and `id`, which asks for no time or for enough.
abbrev pub accepts : Limits → Life → Request → Bool
accepts limits l r = is_none (denial limits (event_of_life l) r)

-- does this request grant it time: it accepts it, and more than 0 is asked for?
abbrev pub grants : Limits → Life → Request → Bool
grants limits l r = accepts limits l r && nat_lt 0 (asked limits r)

-- the last request that it accepted, the birth included
abbrev pub last_accepted : Limits → Life → Hearing
last_accepted limits l = last_heard (accepts limits l) l

-- the last request that granted it time, the birth included
abbrev pub last_grant : Limits → Life → Hearing
last_grant limits l = last_heard (grants limits l) l

-- where its NOTIFYs go: the source of the last request that it accepted
unfoldable pub address : Limits → Life → Addr
address limits l = (last_accepted limits l).source

-- does this request give it a new remote target: it grants it time, and has a Contact (RFC 3261 section 12.2.2)?
abbrev pub retargets : Limits → Life → Request → Bool
retargets limits l r = grants limits l r && is_some (value_of r.contact)

-- the remote target of its dialog: the Contact of the last such request, the birth included
unfoldable pub target : Limits → Life → List ℕ
target limits l = or_empty (value_of (last_heard (retargets limits l) l).request.contact)

-- the moment of a grant plus the time granted then
abbrev pub end_of : Limits → Hearing → ℕ
end_of limits grant = grant.moment + granted limits grant.request

-- until when it lasts
unfoldable pub end_of_grant : Limits → Life → ℕ
end_of_grant limits l = end_of limits (last_grant limits l)

-- how far its transfer has come: the last word of it since the birth, else `100 Trying` (RFC 3515 section 2.4.5)
unfoldable pub status : Life → ℕ × List ℕ
status (Born t source r) = (100, codes "Trying")
status (Then t (Progressed p) l) = (p.code, p.reason)
status (Then t deed l) = status l

-- ---- what touches it

-- is this word of a transfer that had come so far before new?
abbrev pub is_news : Progress → ℕ × List ℕ → Bool
is_news p before = not ((p.code == before.0) && bytes_eq p.reason before.1)

-- Did the last thing touch it, so that a NOTIFY tells of it (RFC 6665 section 4.2.2)? The birth does, an accepted request, a
-- change of its mailbox, word of its transfer that is new, that its time is up, and the planned stop. The birth of a transfer
-- that nobody watches doesn't (RFC 4488).
unfoldable pub is_touched : Limits → Life → Bool
is_touched limits (Born t source r) = not (is_unwatched r)
is_touched limits (Then t (Heard source r) l) = accepts limits l r
is_touched limits (Then t MailChanged l) = true
is_touched limits (Then t (Progressed p) l) = is_news p (status l)
is_touched limits (Then t Due l) = true
is_touched limits (Then t Stopped l) = true
is_touched limits (Then t deed l) = false

abbrev pub one_if : Bool → ℕ
one_if true = 1
one_if false = 0

-- how many things touched it so far: that is the number of its last NOTIFY
unfoldable pub number : Limits → Life → ℕ
number limits (Born t source r) = one_if (is_touched limits (Born t source r))
number limits (Then t deed l) = number limits l + one_if (is_touched limits (Then t deed l))

-- ---- what is unanswered

-- the NOTIFY of the last thing, with its moment, if the last thing touched it
unfoldable pub just_made : Limits → ℕ → Life → List Unanswered
just_made limits moment l = if is_touched limits l then record { number = number limits l; moment = moment } ∷ [] else []

-- the NOTIFYs so far, the oldest first, without those that a final answer closed: a 481 closes none
unfoldable pub unanswered : Limits → Life → List Unanswered
unanswered limits (Born t source r) = just_made limits t (Born t source r)
unanswered limits (Then t (Answered n) l) = filter (λ notify. not (notify.number == n)) (unanswered limits l)
unanswered limits (Then t deed l) = unanswered limits l ++ just_made limits t (Then t deed l)

-- is one of them older than patience allows, at this moment?
unfoldable pub is_overdue : Limits → ℕ → Life → Bool
is_overdue limits moment l = list_any (λ notify. nat_le (notify.moment + patience) moment) (unanswered limits l)

-- ---- what ends it

-- Why the last thing, which touched it, ends it, if it does (RFC 6665 section 4.1.3): it was asked for no time, at the birth
-- (a fetch, section 4.4.3) or in its dialog, or its time was up; its transfer came to a final status; the notifier stopped.
unfoldable pub ended : Limits → Life → Option Reason
ended limits (Born t source r) = if asks_nothing limits r then Some Timeout else None
ended limits (Then t (Heard source r) l) = if asks_nothing limits r then Some Timeout else None
ended limits (Then t (Progressed p) l) = if is_final p.code then Some Noresource else None
ended limits (Then t Due l) = Some Timeout
ended limits (Then t Stopped l) = Some Deactivated
ended limits (Then t deed l) = None

-- the reason, else `deactivated` where the number is the last one that a NOTIFY may have
abbrev pub or_deactivated : Limits → ℕ → Option Reason → Option Reason
or_deactivated limits number (Some reason) = Some reason
or_deactivated limits number None = if number == limits.max_cseq then Some Deactivated else None

-- why the last thing terminated it, if it did: a NOTIFY says so
unfoldable pub terminated : Limits → Life → Option Reason
terminated limits l =
    if is_touched limits l then or_deactivated limits (number limits l) (ended limits l) else None

-- gone without a NOTIFY: a 481 to one of them disowned it, or one stayed unanswered (RFC 6665 section 4.2.2); or there was no
-- subscription from the first, but a transfer that nobody watches
unfoldable pub is_removed : Life → Bool
is_removed (Born t source r) = is_unwatched r
is_removed (Then t Disowned l) = true
is_removed (Then t Lost l) = true
is_removed (Then t deed l) = false

-- gone by the last thing
unfoldable pub is_gone : Limits → Life → Bool
is_gone limits l = is_some (terminated limits l) || is_removed l
