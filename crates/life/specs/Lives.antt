-- The lives of all subscriptions after a list of events, in the order of their births. `Sentences` says what that comes to.
use Rattle.std.specs.Prelude.{ℕ, zero, suc, ◌+◌, Bool, true, false, not, ◌&&◌, List, [], ◌∷◌, ◌++◌, length, count_by, slice_get, is_none, is_some, if◌then◌else◌, nat_le, ◌==◌, Some, None, codes, bytes_eq, Option, option_map, option_and_then, option_to_list, unwrap_or}
use Rattle.sip_read.specs.declared.message.Request.{Request}
use Rattle.sip_read.specs.declared.message.Response.{Response}
use Rattle.package.specs.Content.{Content, OfMail, OfStatus, Maps, is_final, mail_package}
use Rattle.package.specs.Values.{MailChange}
use Rattle.package.specs.Changes.{same_counts}
use Rattle.notifier_model.specs.declared.event.Event.{Event}
use Rattle.notifier_model.specs.declared.event.Event.TheVariants.{Request as Comes, Reply as Replies, Mail as Mails, Progress as Progresses, Tick as Ticks, Shut as Shuts}
use Rattle.notifier_model.specs.Limits.{Limits}
use Rattle.notifier_model.specs.Fields.{or_empty, same_text}
use Rattle.notifier_model.specs.Start.{StartBy, tag_of}
use Rattle.notifier_model.specs.Requests.{event_of, is_refer, user_part, misfit, is_full}
use Rattle.subscription.specs.Table.{is_tag, refuses}
use Rattle.life.specs.Life.{Deed, Answered, Born, Disowned, Due, Heard, Life, Lost, MailChanged, Progressed, Stopped, Then, birth, end_of_grant, is_above, is_gone, is_overdue, number}
use Rattle.life.specs.Past.{content, fits, is_fresh, now}

-- ---- words

-- the value, if the test holds
abbrev pub when : {A : Type 0} → Bool → A → Option A
when true a = Some a
when false a = None

-- the same counts of each class, or the same status
abbrev pub same_content : Option Content → Option Content → Bool
same_content None None = true
same_content None (Some d) = false
same_content (Some c) None = false
same_content (Some (OfMail m)) (Some (OfStatus code reason)) = false
same_content (Some (OfStatus code reason)) (Some (OfMail n)) = false
same_content (Some (OfStatus code reason)) (Some (OfStatus code' reason')) = (code == code') && bytes_eq reason reason'
same_content (Some (OfMail m)) (Some (OfMail n)) =
    same_counts m.voice n.voice
    && (same_counts m.fax n.fax
    && (same_counts m.pager n.pager && (same_counts m.multimedia n.multimedia && same_counts m.text n.text)))

-- ---- which events concern a subscription

-- Does the request stand in the dialog that x made, with this local tag? (RFC 3261 section 12)
unfoldable pub is_in_dialog : List ℕ → Request → Request → Bool
is_in_dialog tag x r =
    bytes_eq x.head.call_id r.head.call_id
    && (same_text (Some tag) r.head.to.tag && bytes_eq (or_empty x.head.from.tag) (or_empty r.head.from.tag))

-- Does the answer to a NOTIFY? It comes back with the local tag in From (RFC 3261 section 12.2.1.2).
unfoldable pub is_answer_in_dialog : List ℕ → Request → Response → Bool
is_answer_in_dialog tag x answer = bytes_eq answer.head.call_id x.head.call_id && is_tag answer.head.from.tag tag

-- Does the event concern the subscription that was born of x and has this local tag? Requests and answers in its dialog do,
-- changes of its mailbox, word of its transfer, each Tick, and the planned stop.
unfoldable pub concerns : List ℕ → Request → Event → Bool
concerns tag x (Comes source r) = is_in_dialog tag x r
concerns tag x (Replies answer) = is_answer_in_dialog tag x answer
concerns tag x (Mails m) = bytes_eq (event_of x).package mail_package && bytes_eq (user_part x.uri) m.mailbox
concerns tag x (Progresses p) = bytes_eq tag p.tag
concerns tag x (Ticks t) = true
concerns tag x Shuts = true

-- ---- what such an event is to it. No tag and no serial is looked at up to `deed_at`

-- May it hear this request, if that is fresh? Nothing stands against the request itself, and its CSeq is above all that it
-- heard (RFC 3261 section 12.2.2).
unfoldable pub may_hear : Request → Life → Bool
may_hear r l = is_none (misfit r) && is_above l r.head.cseq

-- is the answer one to a NOTIFY of it?
unfoldable pub is_to_notify : Limits → Response → Life → Bool
is_to_notify limits answer l =
    bytes_eq answer.head.cseq_method (codes "NOTIFY")
    && (nat_le 1 answer.head.cseq && nat_le answer.head.cseq (number limits l))

-- What such an answer is to it: a 481 disowns it (RFC 6665 section 4.2.2), any other final one answers that NOTIFY (RFC 3261
-- section 7.2).
unfoldable pub answer_deed : Response → Option Deed
answer_deed answer = if refuses answer then Some Disowned else when (is_final answer.status) (Answered answer.head.cseq)

-- is its time up at this moment?
unfoldable pub is_due : Limits → ℕ → Life → Bool
is_due limits moment l = nat_le (end_of_grant limits l) moment

-- what this moment is to it: first of all, a NOTIFY may be unanswered for too long
unfoldable pub tick_deed : Limits → ℕ → Life → Option Deed
tick_deed limits moment l = if is_overdue limits moment l then Some Lost else when (is_due limits moment l) Due

module _ {maps : Maps} where
  -- what the mailbox holds after the change differs from what it held before
  unfoldable pub is_changed : StartBy maps → List Event → MailChange → Bool
  is_changed start past m =
      not (same_content (content start (Mails m ∷ past) mail_package m.mailbox) (content start past mail_package m.mailbox))

  -- what befalls it then, if anything does
  unfoldable pub deed_at : StartBy maps → List Event → Event → Life → Option Deed
  deed_at start past (Comes source r) l = when (is_fresh start.place.limits past r && may_hear r l) (Heard source r)
  deed_at start past (Replies answer) l = if is_to_notify start.place.limits answer l then answer_deed answer else None
  deed_at start past (Mails m) l = when (is_changed start past m) MailChanged
  deed_at start past (Progresses p) l = when (is_refer (birth l)) (Progressed p)
  deed_at start past (Ticks t) l = tick_deed start.place.limits (now (Ticks t ∷ past)) l
  deed_at start past Shuts l = Some Stopped

  -- its life with this event, if the event is anything to it
  unfoldable pub lived : StartBy maps → ℕ → List Event → Event → Life → Option Life
  lived start serial past e l =
      if concerns (tag_of start.place serial) (birth l) e
      then option_map (λ deed. Then (now (e ∷ past)) deed l) (deed_at start past e l) else None

-- ---- births

-- how many of these live
unfoldable pub count_alive : Limits → List Life → ℕ
count_alive limits lives = count_by (λ l. not (is_gone limits l)) lives

module _ {maps : Maps} where
  -- Is a subscription born of this request, beside these? It has no To tag, it fits, and there is a serial for it and, if it
  -- needs one, a place.
  unfoldable pub is_birth : StartBy maps → List Event → List Life → Request → Bool
  is_birth start past lives r =
      is_none r.head.to.tag
      && (fits start past r && not (is_full start.place.limits (length lives + 1) (count_alive start.place.limits lives) r))

  -- the life that begins at this event, if one does
  unfoldable pub begun : StartBy maps → List Event → List Life → Event → Option Life
  begun start past lives (Comes source r) = when (is_birth start past lives r) (Born (now past) source r)
  begun start past lives (Replies r) = None
  begun start past lives (Mails m) = None
  begun start past lives (Progresses p) = None
  begun start past lives (Ticks t) = None
  begun start past lives Shuts = None

  -- ---- lives

  -- what befalls a life at this event: once it is gone, nothing
  unfoldable pub befalls : StartBy maps → ℕ → List Event → Event → Life → Option Life
  befalls start serial past e l = if is_gone start.place.limits l then None else lived start serial past e l

  -- each life goes on: the first has this serial, the next the next
  unfoldable pub go_on : StartBy maps → List Event → Event → ℕ → List Life → List Life
  go_on start past e serial [] = []
  go_on start past e serial (l ∷ lives) = unwrap_or (befalls start serial past e l) l ∷ go_on start past e (serial + 1) lives

  -- the lives after one event more: each goes on, and one may begin
  unfoldable pub after : StartBy maps → List Event → Event → List Life → List Life
  after start past e lives = go_on start past e 1 lives ++ option_to_list (begun start past lives e)

  -- all lives so far, in the order of their births
  unfoldable pub lives : StartBy maps → List Event → List Life
  lives start [] = []
  lives start (e ∷ past) = after start past e (lives start past)

  -- ---- by serial

  -- how many were born so far
  unfoldable pub births : StartBy maps → List Event → ℕ
  births start past = length (lives start past)

  -- the life so far of the subscription with this serial, if it was born: the first has serial 1
  unfoldable pub life : StartBy maps → List Event → ℕ → Option Life
  life start past zero = None
  life start past (suc n) = slice_get (lives start past) n

  -- the life that begins at this event
  unfoldable pub birth_at : StartBy maps → List Event → Event → Option Life
  birth_at start past e = begun start past (lives start past) e

  -- is the subscription with this serial born at this event?
  unfoldable pub is_born_at : StartBy maps → ℕ → List Event → Event → Bool
  is_born_at start serial past e = serial == births start past + 1 && is_some (birth_at start past e)

  -- what befalls the subscription with this serial at this event: its birth, or what the event is to its life
  unfoldable pub befell : StartBy maps → List Event → Event → ℕ → Option Life
  befell start past e serial =
      if serial == births start past + 1 then birth_at start past e
      else option_and_then (befalls start serial past e) (life start past serial)
