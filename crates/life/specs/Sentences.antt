-- The sentences that a reader expects of a life, each said of the events in its own words. They show that the definitions of
-- `Life` and `Lives`, which are recursions, come to what they should.
use Rattle.std.specs.Prelude.{ℕ, ◌≡◌, ◌<◌, ◌+◌, Bool, true, false, not, ◌&&◌, ◌||◌, List, [], ◌∷◌, ◌++◌, is_some, if◌then◌else◌, nat_lt, ◌==◌, Some, None, codes, bytes_eq, Option, ◌≤◌, ◌↔◌, ◌⊎◌}
use Rattle.sip_text.specs.declared.address.Addr.{Addr}
use Rattle.sip_read.specs.declared.message.Request.{Request}
use Rattle.package.specs.declared.counts.Class.{Class}
use Rattle.package.specs.declared.counts.Counts.{Counts}
use Rattle.package.specs.declared.change.Change.{Change}
use Rattle.package.specs.declared.change.Change.TheVariants.{Mail as MailTo}
use Rattle.package.specs.Content.{Content}
use Rattle.package.specs.Run.{mailbox_after, Status, furthest, trying}
use Rattle.package.specs.Values.{MailChange}
use Rattle.notifier_model.specs.declared.event.Event.{Event}
use Rattle.notifier_model.specs.declared.event.Event.TheVariants.{Request as Comes, Reply as Replies, Mail as Mails, Progress as Progresses, Tick as Ticks, Shut as Shuts}
use Rattle.notifier_model.specs.Limits.{Limits}
use Rattle.notifier_model.specs.Start.{Start, tag_of, last_moment}
use Rattle.notifier_model.specs.Requests.{is_ack, is_refer, same_key, key_of_request, granted, asks_nothing, is_unwatched}
use Rattle.notifier_model.specs.declared.row.Key.{Key}
use Rattle.std.specs.List.{list_all, list_any}
use Rattle.life.specs.Life.{Answered, Born, Deed, Heard, Life, Progressed, Then, address, birth, cseqs, end_of_grant, ended, accepts, is_gone, grants, is_overdue, is_touched, number, one_if, status, terminated, unanswered}
use Rattle.life.specs.Lives.{befell, birth_at, births, count_alive, is_born_at, life, lives}
use Rattle.life.specs.Past.{fits, is_fresh, last_counts, mail_content, now, same_class}
use Rattle.life.specs.Notices.{notices}
use Rattle.life.specs.Laws.{IsStart}

-- did this event come?
abbrev pub Came : List Event → Event → Type 0
Came [] e = ⊥
Came (first ∷ past) e = (first ≡ e) ⊎ Came past e

-- ---- The moment is the greatest Tick so far that is not above the last moment, or 0.

pub record IsNow (past : List Event) : Type 0 where
  pub greatest : (t : ℕ) → Came past (Ticks t) → t ≤ last_moment → t ≤ now past
  pub ticked : (now past ≡ 0) ⊎ (Came past (Ticks (now past)) × (now past ≤ last_moment))

abbrev pub NowLaw : Type 0
NowLaw = (past : List Event) → IsNow past

-- ---- The counts of a mailbox and a class are those of the last mail change to them, else those at first.

-- does this event set the counts of this mailbox and class?
abbrev pub sets : List ℕ → Class → Event → Bool
sets mailbox class (Comes source r) = false
sets mailbox class (Replies r) = false
sets mailbox class (Mails m) = bytes_eq m.mailbox mailbox && same_class m.class class
sets mailbox class (Progresses p) = false
sets mailbox class (Ticks t) = false
sets mailbox class Shuts = false

pub record IsLast (mailbox : List ℕ) (class : Class) (first : Option Counts) : Type 0 where
  pub last : (later past : List Event) (m : MailChange) → ((e : Event) → Came later e → sets mailbox class e ≡ false) → sets mailbox class (Mails m) ≡ true →
      last_counts mailbox class first (later ++ Mails m ∷ past) ≡ Some m.counts
  pub at_first : (past : List Event) → ((e : Event) → Came past e → sets mailbox class e ≡ false) → last_counts mailbox class first past ≡ first

abbrev pub CountsLaw : Type 0
CountsLaw = (mailbox : List ℕ) (class : Class) (first : Option Counts) → IsLast mailbox class first

-- ---- So a mailbox holds what the packages' own law says of these mail changes.

-- the mail changes among these events, as they came
abbrev pub mail_changes : List Event → List Change
mail_changes [] = []
mail_changes (Comes source r ∷ past) = mail_changes past
mail_changes (Replies r ∷ past) = mail_changes past
mail_changes (Mails m ∷ past) = mail_changes past ++ MailTo m ∷ []
mail_changes (Progresses p ∷ past) = mail_changes past
mail_changes (Ticks t ∷ past) = mail_changes past
mail_changes (Shuts ∷ past) = mail_changes past

abbrev pub ContentsLaw : Type 0
ContentsLaw = (mailbox : List ℕ) (past : List Event) (first : Option Content) → mail_content mailbox past first ≡ mailbox_after mailbox first (mail_changes past)

-- ---- A request of a transaction that no request before was of is fresh, unless it is an ACK; the same again, right after it, is
-- not (RFC 3261 section 17.2.3).

-- both name a transaction, and the same one
abbrev pub same_transaction : Option Key → Option Key → Bool
same_transaction None l = false
same_transaction (Some k) None = false
same_transaction (Some k) (Some l) = same_key k l

pub record IsFreshLaw (limits : Limits) (past : List Event) (r : Request) : Type 0 where
  pub first : is_ack r ≡ false → ((source : Addr) (q : Request) → Came past (Comes source q) → same_transaction (key_of_request q) (key_of_request r) ≡ false) → is_fresh limits past r ≡ true
  pub again : (source : Addr) → is_some (key_of_request r) ≡ true → 1 ≤ limits.kept → is_fresh limits (Comes source r ∷ past) r ≡ false

abbrev pub FreshLaw : Type 0
FreshLaw = (limits : Limits) (past : List Event) (r : Request) → IsFreshLaw limits past r

-- ---- A subscription is born at a request that fits, has no To tag, and finds a serial and, if it needs one, a place. It
-- has a life from then on.

-- The request fits and is outside a dialog, the next serial is within the limit, and it is a fetch or a transfer that nobody
-- watches, or there is a place in the table.
pub record IsBirth (start : Start) (past : List Event) (r : Request) : Type 0 where
  pub fits : fits start past r ≡ true
  pub no_tag : r.head.to.tag ≡ None
  pub serial : births start past + 1 ≤ start.place.limits.serials
  pub place : ((asks_nothing start.place.limits r || is_unwatched r) ≡ true) ⊎ (count_alive start.place.limits (lives start past) < start.place.limits.table)

pub record AreBirths (start : Start) (past : List Event) : Type 0 where
  -- where a request makes a birth
  pub where_born : (source : Addr) (r : Request) → is_some (birth_at start past (Comes source r)) ≡ true ↔ IsBirth start past r
  -- the births are counted
  pub counted : (e : Event) → births start (e ∷ past) ≡ births start past + one_if (is_some (birth_at start past e))
  -- a life is there where it was born here or before
  pub born : (e : Event) (serial : ℕ) → is_some (life start (e ∷ past) serial) ≡ (is_some (life start past serial) || is_born_at start serial past e)

abbrev pub BirthsLaw : Type 0
BirthsLaw = (start : Start) (past : List Event) → AreBirths start past

-- ---- After an event a life is what befell it there, else what it was before.

-- the new life, if there is one
abbrev pub or_before : Option Life → Option Life → Option Life
or_before None before = before
or_before (Some l) before = Some l

abbrev pub GoesOnLaw : Type 0
GoesOnLaw = (start : Start) (past : List Event) (e : Event) (serial : ℕ) →
    life start (e ∷ past) serial ≡ or_before (befell start past e serial) (life start past serial)

-- ---- It is gone once something makes it gone, and stays so: it was terminated, a 481 came, a NOTIFY stayed unanswered, or
-- nobody watches it. Then no NOTIFY follows.

abbrev pub is_gone_by : Limits → Option Life → Bool
is_gone_by limits None = false
is_gone_by limits (Some l) = is_gone limits l

abbrev pub GoneLaw : Type 0
GoneLaw = (start : Start) (past : List Event) (e : Event) (serial : ℕ) →
    is_gone_by start.place.limits (life start (e ∷ past) serial) ≡ (is_gone_by start.place.limits (life start past serial) || is_gone_by start.place.limits (befell start past e serial))

abbrev pub SilentLaw : Type 0
SilentLaw = (start : Start) (past : List Event) (e : Event) (serial : ℕ) → is_gone_by start.place.limits (life start past serial) ≡ true →
    notices start serial (e ∷ past) ≡ notices start serial past

-- ---- Its number counts what touched it.

-- how many things so far touched it
abbrev pub number_of : Limits → Option Life → ℕ
number_of limits None = 0
number_of limits (Some l) = number limits l

-- does what befell it touch it?
abbrev pub is_touch : Limits → Option Life → Bool
is_touch limits None = false
is_touch limits (Some l) = is_touched limits l

abbrev pub TouchedLaw : Type 0
TouchedLaw = (start : Start) (past : List Event) (e : Event) (serial : ℕ) →
    number_of start.place.limits (life start (e ∷ past) serial) ≡ number_of start.place.limits (life start past serial) + one_if (is_touch start.place.limits (befell start past e serial))

-- ---- Who lives has time left, and no NOTIFY of it is unanswered for too long.

pub record IsInTime (limits : Limits) (moment : ℕ) (l : Life) : Type 0 where
  pub has_time : moment < end_of_grant limits l
  pub answered : is_overdue limits moment l ≡ false

abbrev pub InTimeLaw : Type 0
InTimeLaw = (start : Start) (past : List Event) (serial : ℕ) (l : Life) → IsStart start → life start past serial ≡ Some l → is_gone start.place.limits l ≡ false →
    IsInTime start.place.limits (now past) l

-- ---- An accepted request moves the address to its source, and one that asks for time makes the time granted count from then.
-- Nothing else moves either.

abbrev pub is_hearing : Deed → Bool
is_hearing (Heard source r) = true
is_hearing _ = false

pub record IsMoved (limits : Limits) (moment : ℕ) (l : Life) : Type 0 where
  pub to_source : (source : Addr) (r : Request) → accepts limits l r ≡ true → address limits (Then moment (Heard source r) l) ≡ source
  pub not_refused : (source : Addr) (r : Request) → accepts limits l r ≡ false → address limits (Then moment (Heard source r) l) ≡ address limits l
  pub granted_anew : (source : Addr) (r : Request) → grants limits l r ≡ true → end_of_grant limits (Then moment (Heard source r) l) ≡ moment + granted limits r
  pub not_granted : (source : Addr) (r : Request) → grants limits l r ≡ false → end_of_grant limits (Then moment (Heard source r) l) ≡ end_of_grant limits l
  pub by_nothing_else : (deed : Deed) → is_hearing deed ≡ false → (address limits (Then moment deed l) ≡ address limits l) × (end_of_grant limits (Then moment deed l) ≡ end_of_grant limits l)

abbrev pub MovedLaw : Type 0
MovedLaw = (limits : Limits) (moment : ℕ) (l : Life) → IsMoved limits moment l

-- ---- A NOTIFY says that it is terminated where what it tells of ends it, or its number is the last one. Nothing that is not
-- told terminates it.

abbrev pub TerminatedLaw : Type 0
TerminatedLaw = (limits : Limits) (l : Life) →
    is_some (terminated limits l) ≡ (is_touched limits l && (is_some (ended limits l) || number limits l == limits.max_cseq))

-- ---- A NOTIFY is unanswered from when it is made. A final answer to its number but a 481 closes it and no other; nothing else does.

-- is the NOTIFY with this number unanswered?
abbrev pub is_open : Limits → Life → ℕ → Bool
is_open limits l n = list_any (λ notify. notify.number == n) (unanswered limits l)

pub record IsOpen (limits : Limits) (moment : ℕ) (l : Life) : Type 0 where
  pub made : (deed : Deed) → is_touched limits (Then moment deed l) ≡ true →
      unanswered limits (Then moment deed l) ≡ unanswered limits l ++ record { number = number limits (Then moment deed l); moment = moment } ∷ []
  pub closed : (n m : ℕ) → is_open limits (Then moment (Answered n) l) m ≡ (is_open limits l m && not (m == n))
  pub kept : (deed : Deed) → ((n : ℕ) → deed ≡ Answered n → ⊥) → is_touched limits (Then moment deed l) ≡ false →
      unanswered limits (Then moment deed l) ≡ unanswered limits l

abbrev pub UnansweredLaw : Type 0
UnansweredLaw = (limits : Limits) (moment : ℕ) (l : Life) → IsOpen limits moment l

-- ---- A transfer that nobody watches is gone from its birth on, and nobody is told of it (RFC 4488).

pub record IsUnwatched (start : Start) (past : List Event) (serial : ℕ) (l : Life) : Type 0 where
  pub gone : is_gone start.place.limits l ≡ true
  pub untold : notices start serial past ≡ []

abbrev pub UnwatchedLaw : Type 0
UnwatchedLaw = (start : Start) (past : List Event) (serial : ℕ) (l : Life) → life start past serial ≡ Some l → is_unwatched (birth l) ≡ true → IsUnwatched start past serial l

-- ---- The CSeqs that it heard rise (RFC 3261 section 12.2.2).

-- newest first: each is above all before it
abbrev pub rise : List ℕ → Bool
rise [] = true
rise (c ∷ before) = list_all (λ heard. nat_lt heard c) before && rise before

abbrev pub RisingLaw : Type 0
RisingLaw = (start : Start) (past : List Event) (serial : ℕ) (l : Life) → life start past serial ≡ Some l → rise (cseqs l) ≡ true

-- ---- At each event that befalls it a transfer has come as far as the last Progress of its tag since its birth says, else to
-- `100 Trying`.

-- how far the transfer with this tag has come after an event, by how far it had come before
abbrev pub status_after : List ℕ → Event → ℕ × List ℕ → ℕ × List ℕ
status_after tag (Comes source r) before = before
status_after tag (Replies r) before = before
status_after tag (Mails m) before = before
status_after tag (Progresses p) before = if bytes_eq tag p.tag then (p.code, p.reason) else before
status_after tag (Ticks t) before = before
status_after tag Shuts before = before

-- said of the events alone
unfoldable pub last_status : Start → ℕ → List Event → ℕ × List ℕ
last_status start serial [] = (100, codes "Trying")
last_status start serial (e ∷ past) =
    if is_born_at start serial past e then (100, codes "Trying") else status_after (tag_of start.place serial) e (last_status start serial past)

abbrev pub StatusLaw : Type 0
StatusLaw = (start : Start) (past : List Event) (e : Event) (serial : ℕ) (m : Life) →
    befell start past e serial ≡ Some m → is_refer (birth m) ≡ true → status m ≡ last_status start serial (e ∷ past)

-- ---- So a living transfer has come as far as the packages' own law says of the words of it.

-- the words of its transfer, as they came
abbrev pub words : Life → List Status
words (Born t source r) = []
words (Then t (Progressed p) l) = words l ++ (p.code, p.reason) ∷ []
words (Then t deed l) = words l

abbrev pub TransferLaw : Type 0
TransferLaw = (start : Start) (past : List Event) (serial : ℕ) (l : Life) → IsStart start → life start past serial ≡ Some l → is_gone start.place.limits l ≡ false →
    status l ≡ furthest trying (words l)
