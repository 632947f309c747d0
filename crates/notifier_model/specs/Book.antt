-- The book of a notifier: what it keeps, and what each event does to it (RFC 6665 section 4.2).
use Rattle.std.specs.Prelude.{ℕ, ◌+◌, max, Bool, true, false, is_none, List, [], ◌∷◌, ◌++◌, find, length, if◌then◌else◌, nat_lt, Some, None, Option, option_to_list}
use Rattle.sip_text.specs.declared.address.Addr.{Addr}
use Rattle.sip_read.specs.declared.message.Request.{Request}
use Rattle.sip_read.specs.declared.message.Response.{Response}
use Rattle.sip_write.specs.Answer.{AnswerText, answer_text}
use Rattle.subscription.specs.declared.terms.Usage.{Usage}
use Rattle.subscription.specs.declared.terms.Want.{Want}
use Rattle.subscription.specs.declared.life.Step.{Step}
use Rattle.subscription.specs.State.{State}
use Rattle.subscription.specs.Table.{accept, fetch, over}
use Rattle.package.specs.declared.change.Change.TheVariants.{Mail as MailTo, Begin, Step as StepOf}
use Rattle.package.specs.declared.change.Outcome.{Outcome}
use Rattle.package.specs.declared.change.Outcome.TheVariants.{Changed, Same, Unknown}
use Rattle.package.specs.Content.{Maps, SeenBy, is_final, mail_package, refer_package, finite_maps}
use Rattle.package.specs.Boxes.{change_first}
use Rattle.notifier_model.specs.declared.place.Place.{Place}
use Rattle.notifier_model.specs.declared.event.Event.{Event}
use Rattle.notifier_model.specs.declared.event.Event.TheVariants.{Request as Comes, Reply, Mail, Progress, Tick, Shut}
use Rattle.notifier_model.specs.declared.refusal.Refusal.{Refusal}
use Rattle.notifier_model.specs.declared.refusal.Refusal.TheVariants.{NoDialog, OldCseq, Full}
use Rattle.notifier_model.specs.declared.birth.Birth.{Birth}
use Rattle.notifier_model.specs.declared.birth.Birth.TheVariants.{Watch, Fetch, Transfer, Unwatched}
use Rattle.notifier_model.specs.declared.birth.Newborn.{Newborn}
use Rattle.notifier_model.specs.declared.row.Row.{Row}
use Rattle.notifier_model.specs.declared.row.Kept.{Kept}
use Rattle.notifier_model.specs.Fields.{value_of, or_empty}
use Rattle.notifier_model.specs.Limits.{Limits}
use Rattle.notifier_model.specs.Start.{tag_of, last_moment}
use Rattle.notifier_model.specs.Requests.{is_ack, is_refer, key_of_request, user_part, event_of, granted, misfit, misplaced, denial, birth_of, is_full}
use Rattle.notifier_model.specs.Answers.{refusal_answer, renewal_answer, birth_answer, kept_answer, ring_with}
use Rattle.notifier_model.specs.Out.{Send, Answers, Starts}
use Rattle.notifier_model.specs.Rows.{Telling, Turned, goes, turned, sweep, forgetting, only, is_dialog, counted, renewed, tells_watcher, times_out, stops, answered}

module _ (maps : Maps) where
  -- the moment in seconds, the next serial, the rows by rising serial, the packages, and the kept answers, newest first
  pub record BookBy : Type 0 where
    pub clock : ℕ
    pub next : ℕ
    pub rows : List Row
    pub boxes : List (SeenBy maps)
    pub ring : List Kept

  -- the book after an event, and what goes out
  pub record SteppedBy : Type 0 where
    pub book : BookBy
    pub outs : List Send

abbrev pub Book : Type 0
Book = BookBy finite_maps

-- ---- what to do with a request: the first case that applies, in this order (RFC 6665 section 4.2.1)

pub data Verdict : Type 0 where
  -- an ACK has no answer (RFC 3261 section 17)
  Silent : Verdict
  -- a retransmission gets the kept answer (RFC 3261 section 17.2.2)
  Repeated : (bytes : List ℕ) → Verdict
  -- it is refused for this cause
  Refused : (cause : Refusal) → Verdict
  -- it is refused in the dialog of the row with this serial, and that dialog has heard its CSeq (RFC 3261 section 12.2.2)
  Denied : (serial : ℕ) (cause : Refusal) → Verdict
  -- a SUBSCRIBE is accepted in the dialog of the row with this serial (RFC 6665 section 4.2.1.4)
  Renewed : (serial : ℕ) → Verdict
  -- it makes a dialog, and this (RFC 6665 section 4.2.1.1, RFC 3515 section 2.4.2)
  Born : (kind : Birth) → Verdict

-- refused for this cause, if there is one; else as the rest says
unfoldable pub unless : Option Refusal → Verdict → Verdict
unless (Some cause) rest = Refused cause
unless None rest = rest

-- denied in the dialog of the row with this serial for this cause, if there is one; else renewed
unfoldable pub unless_denied : ℕ → Option Refusal → Verdict
unless_denied serial (Some cause) = Denied serial cause
unless_denied serial None = Renewed serial

-- in a dialog, by its row: there is none, its CSeq isn't above the last one, or what stands against it (RFC 3261 section 12.2.2)
unfoldable pub in_dialog : Limits → Request → Option Row → Verdict
in_dialog limits r None = Refused NoDialog
in_dialog limits r (Some row) =
    if nat_lt row.last_cseq r.head.cseq then unless_denied row.serial (denial limits row.sub.want.event r) else Refused OldCseq

module _ {maps : Maps} where
  -- outside a dialog: no package takes it, there is no room, or it makes a dialog
  unfoldable pub outside : Limits → BookBy maps → Request → Verdict
  outside limits b r =
      unless (misplaced limits b.boxes r)
      (if is_full limits b.next (length b.rows) r then Refused Full else Born (birth_of limits r))

  -- by its To tag
  unfoldable pub by_to_tag : Limits → BookBy maps → Request → Option (List ℕ) → Verdict
  by_to_tag limits b r None = outside limits b r
  by_to_tag limits b r (Some tag) = in_dialog limits r (find (is_dialog r tag) b.rows)

  -- by the kept answer: it is a retransmission, or no state can help it, or the To tag says
  unfoldable pub by_kept : Limits → BookBy maps → Request → Option (List ℕ) → Verdict
  by_kept limits b r (Some bytes) = Repeated bytes
  by_kept limits b r None = unless (misfit r) (by_to_tag limits b r r.head.to.tag)

  unfoldable pub verdict : Limits → BookBy maps → Request → Verdict
  verdict limits b r = if is_ack r then Silent else by_kept limits b r (kept_answer b.ring (key_of_request r))

-- ---- a request that makes a dialog

-- the subscription that it makes of this kind, with the next serial
abbrev pub newborn : Place → ℕ → Birth → Newborn
newborn place next kind = record { kind = kind; serial = next; tag = tag_of place next }

-- RFC 3261 section 12.1.1
unfoldable pub new_usage : List ℕ → Request → Usage
new_usage tag r = record {
  call_id = r.head.call_id;
  local_tag = tag;
  remote_tag = or_empty r.head.from.tag;
  local = r.head.to.text;
  remote = r.head.from.text;
  target = or_empty (value_of r.contact);
  routes = r.record_routes;
  remote_cseq = r.head.cseq;
}

-- a SUBSCRIBE watches the user part of its URI, a REFER the transfer that it makes
unfoldable pub new_want : Place → List ℕ → Addr → Request → Want
new_want place tag source r = record {
  event = event_of r;
  resource = if is_refer r then tag else user_part r.uri;
  to = source;
  max_cseq = place.limits.max_cseq;
}

-- by its kind a subscription begins at this moment for the time granted, is told once, or is none
unfoldable pub first_step : Birth → Usage → Want → ℕ → ℕ → Option Step
first_step Watch usage want clock time = Some (accept usage want clock time)
first_step Fetch usage want clock time = Some (over (fetch usage want))
first_step Transfer usage want clock time = Some (accept usage want clock time)
first_step Unwatched usage want clock time = None

-- its row, of which no NOTIFY was sent yet
unfoldable pub new_row : ℕ → Request → State → Row
new_row serial r sub = record { serial = serial; sub = sub; last_cseq = r.head.cseq; unanswered = [] }

-- the word that its transfer may start
unfoldable pub first_word : List ℕ → Request → List Send
first_word tag r = if is_refer r then Starts tag (or_empty (value_of r.refer_to)) ∷ [] else []

-- a transfer that ends at its birth, as its first number is the last that may be, is forgotten
unfoldable pub first_gone : List ℕ → Birth → Bool → List (List ℕ)
first_gone tag Transfer true = tag ∷ []
first_gone tag Transfer false = []
first_gone tag _ ends = []

-- ---- what is done

module _ {maps : Maps} where
  unfoldable pub nothing : BookBy maps → SteppedBy maps
  nothing b = record { book = b; outs = [] }

  -- the book that keeps this answer
  unfoldable pub keeping : Place → BookBy maps → Request → AnswerText → BookBy maps
  keeping place b r a = record b { ring = ring_with place.limits b.ring (key_of_request r) (answer_text a) }

  unfoldable pub refused : Place → BookBy maps → Addr → Request → Refusal → SteppedBy maps
  refused place b source r cause = record {
    book = keeping place b r (refusal_answer place b.boxes source r cause);
    outs = Answers source (answer_text (refusal_answer place b.boxes source r cause)) ∷ [];
  }

  -- all rows by one rule: their NOTIFYs after these outs. Then the transfers of the rows that go are forgotten
  unfoldable pub all_rows : BookBy maps → (Row → Turned) → List Send → SteppedBy maps
  all_rows b rule outs =
      let swept = sweep rule b.rows in
      record {
        book = record b { rows = swept.rows; boxes = forgetting swept.gone b.boxes };
        outs = outs ++ swept.notifies;
      }

  -- from this book its subscriptions are told
  abbrev pub telling : Place → BookBy maps → Telling maps
  telling place b = record { place = place; boxes = b.boxes; clock = b.clock }

  -- refused in the dialog of the row with this serial
  unfoldable pub denied : Place → BookBy maps → Addr → Request → ℕ → Refusal → SteppedBy maps
  denied place b source r serial cause =
      all_rows (refused place b source r cause).book (only serial (counted r)) (refused place b source r cause).outs

  -- accepted in it
  unfoldable pub accepted : Place → BookBy maps → Addr → Request → ℕ → SteppedBy maps
  accepted place b source r serial =
      all_rows (keeping place b r (renewal_answer place source r))
      (only serial (renewed (telling place b) source r))
      (Answers source (answer_text (renewal_answer place source r)) ∷ [])

  -- a transfer that is watched begins (RFC 3515 section 2.4.4)
  unfoldable pub first_boxes : List (SeenBy maps) → List ℕ → Birth → List (SeenBy maps)
  first_boxes boxes tag Transfer = (change_first boxes (Begin tag)).1
  first_boxes boxes tag _ = boxes

  -- by its first step, if it makes one: its row, if one stays, and its first NOTIFY
  unfoldable pub first_turned : Telling maps → Addr → Request → Newborn → Option Step → Turned
  first_turned t source r n None = goes
  first_turned t source r n (Some next) = turned t source (new_row n.serial r) next

  -- what is told of it first
  unfoldable pub first_told : Telling maps → Addr → Request → Newborn → Turned
  first_told t source r n =
      first_turned t source r n (first_step n.kind (new_usage n.tag r) (new_want t.place n.tag source r) t.clock (granted t.place.limits r))

  -- Its transfer begins, if it is watched. The answer goes out, then its first NOTIFY, then the word that its transfer may start.
  unfoldable pub born : Place → BookBy maps → Addr → Request → Newborn → SteppedBy maps
  born place b source r n =
      let boxes = first_boxes b.boxes n.tag n.kind in
      let told = first_told (telling place (record b { boxes = boxes })) source r n in
      record {
        book = record (keeping place b r (birth_answer place source r n.tag)) {
          next = b.next + 1;
          rows = b.rows ++ option_to_list told.row;
          boxes = forgetting (first_gone n.tag n.kind (is_none told.row)) boxes;
        };
        outs = Answers source (answer_text (birth_answer place source r n.tag)) ∷ (told.notifies ++ first_word n.tag r);
      }

  unfoldable pub served : Place → BookBy maps → Addr → Request → Verdict → SteppedBy maps
  served place b source r Silent = nothing b
  served place b source r (Repeated bytes) = record { book = b; outs = Answers source bytes ∷ [] }
  served place b source r (Refused cause) = refused place b source r cause
  served place b source r (Denied serial cause) = denied place b source r serial cause
  served place b source r (Renewed serial) = accepted place b source r serial
  served place b source r (Born kind) = born place b source r (newborn place b.next kind)

  -- ---- other events

  -- by what the package answers to the change
  unfoldable pub content_changed : Place → BookBy maps → List ℕ → List ℕ → Bool → Outcome × List (SeenBy maps) → SteppedBy maps
  content_changed place b name resource is_over (Changed, boxes) =
      let after = record b { boxes = boxes } in all_rows after (tells_watcher (telling place after) name resource is_over) []
  content_changed place b name resource is_over (Same, boxes) = nothing (record b { boxes = boxes })
  content_changed place b name resource is_over (Unknown, boxes) = nothing (record b { boxes = boxes })

  unfoldable pub replied : BookBy maps → Response → SteppedBy maps
  replied b response = all_rows b (answered response) []

  -- time goes on to this moment
  unfoldable pub ticked : Place → BookBy maps → ℕ → SteppedBy maps
  ticked place b clock = let after = record b { clock = clock } in all_rows after (times_out (telling place after)) []

  -- the planned stop
  unfoldable pub shut : Place → BookBy maps → SteppedBy maps
  shut place b = all_rows b (stops (telling place b)) []

  -- ---- the step

  unfoldable pub step : Place → BookBy maps → Event → SteppedBy maps
  step place b (Comes source r) = served place b source r (verdict place.limits b r)
  step place b (Reply response) = replied b response
  step place b (Mail m) = content_changed place b mail_package m.mailbox false (change_first b.boxes (MailTo m))
  step place b (Progress p) = content_changed place b refer_package p.tag (is_final p.code) (change_first b.boxes (StepOf p))
  step place b (Tick t) = if nat_lt last_moment t then nothing b else ticked place b (max b.clock t)
  step place b Shut = shut place b
