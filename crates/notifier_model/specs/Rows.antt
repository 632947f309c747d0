-- What an event makes of the live subscriptions, row by row.
use Rattle.std.specs.Prelude.{ℕ, ◌-◌, Bool, not, ◌&&◌, filter, List, [], ◌∷◌, ◌++◌, flat_map, Option, Some, None, is_none, option_to_list, if◌then◌else◌, nat_le, ◌==◌, bytes_eq}
use Rattle.std.specs.List.{list_any}
use Rattle.sip_text.specs.declared.address.Addr.{Addr}
use Rattle.sip_read.specs.declared.message.Request.{Request}
use Rattle.sip_read.specs.declared.message.Response.{Response}
use Rattle.sip_write.specs.Notify.{NotifyText}
use Rattle.subscription.specs.declared.terms.Usage.{Usage}
use Rattle.subscription.specs.declared.terms.Want.{Want}
use Rattle.subscription.specs.declared.notify.Notice.{Notice}
use Rattle.subscription.specs.declared.notify.Reason.{Reason}
use Rattle.subscription.specs.declared.notify.Reason.TheVariants.{Timeout, Deactivated}
use Rattle.subscription.specs.declared.life.Step.{Step}
use Rattle.subscription.specs.declared.life.Step.TheVariants.{Live, Over}
use Rattle.subscription.specs.State.{State}
use Rattle.subscription.specs.Table.{refresh, end, over, changed, is_answer_to, refuses}
use Rattle.subscription.specs.Written.{state_of}
use Rattle.package.specs.declared.change.Change.TheVariants.{Forget}
use Rattle.package.specs.Content.{Maps, SeenBy, is_final}
use Rattle.package.specs.Boxes.{first_box, change_first, content_in, type_of}
use Rattle.package.specs.Bodies.{body_of_held}
use Rattle.notifier_model.specs.declared.place.Place.{Place}
use Rattle.notifier_model.specs.declared.row.Row.{Row}
use Rattle.notifier_model.specs.declared.row.Unanswered.{Unanswered}
use Rattle.notifier_model.specs.Fields.{value_of, or_empty}
use Rattle.notifier_model.specs.Start.{patience}
use Rattle.notifier_model.specs.Requests.{is_of_refer, granted, asks_nothing}
use Rattle.notifier_model.specs.Out.{Send, Notifies}

-- from what subscriptions are told: the place of the notifier, what its packages hold, and the moment in seconds
pub record Telling (maps : Maps) : Type 0 where
  pub place : Place
  pub boxes : List (SeenBy maps)
  pub clock : ℕ

-- ---- a NOTIFY shows the whole content

module _ {maps : Maps} where
  unfoldable pub notify : Telling maps → Usage → Want → Notice → NotifyText
  notify t usage want notice = record {
    target = usage.target;
    routes = usage.routes;
    me = t.place.me;
    local = usage.local;
    local_tag = usage.local_tag;
    remote = usage.remote;
    call_id = usage.call_id;
    number = notice.number;
    event = want.event;
    state = state_of notice.phase;
    content_type = type_of (first_box want.event.package t.boxes);
    body = body_of_held (content_in t.boxes want.event.package want.resource);
  }

-- The mailbox that is watched. A subscription of `refer` watches none, but the transfer of its tag (RFC 3515 section 2.4.4).
abbrev pub mailbox_of : Want → Option (List ℕ)
mailbox_of want = if is_of_refer want.event then None else Some want.resource

-- ---- one row: the row that stays, if any, and its NOTIFYs

pub record Turned : Type 0 where
  pub row : Option Row
  pub notifies : List Send

unfoldable pub stays : Row → Turned
stays row = record { row = Some row; notifies = [] }

unfoldable pub goes : Turned
goes = record { row = None; notifies = [] }

-- a rule for the rows that pass a test: any other row stays
unfoldable pub wherever : (Row → Bool) → (Row → Turned) → Row → Turned
wherever test rule row = if test row then rule row else stays row

-- the row with one NOTIFY more that is unanswered
unfoldable pub opened : ℕ → Notice → Row → Row
opened clock notice row =
    record row { unanswered = row.unanswered ++ record { number = notice.number; moment = clock } ∷ [] }

-- the row with this state of its subscription
abbrev pub with_sub : Row → State → Row
with_sub row sub = record row { sub = sub }

module _ {maps : Maps} where
  -- A step of a subscription. Its NOTIFY goes to this address; `row_of` makes the row of the state that goes on.
  unfoldable pub turned : Telling maps → Addr → (State → Row) → Step → Turned
  turned t to row_of (Live sub notice) = record {
    row = Some (opened t.clock notice (row_of sub));
    notifies = Notifies to (mailbox_of sub.want) (notify t sub.usage sub.want notice) ∷ [];
  }
  turned t to row_of (Over usage want notice) = record {
    row = None;
    notifies = Notifies to (mailbox_of want) (notify t usage want notice) ∷ [];
  }

  -- a step that no request made: the NOTIFY goes where the last one went
  unfoldable pub tells : Telling maps → Row → Step → Turned
  tells t row next = turned t row.sub.want.to (with_sub row) next

  -- the end, with a last NOTIFY that says why
  unfoldable pub ends : Telling maps → Reason → Row → Turned
  ends t reason row = tells t row (over (end row.sub reason))

-- ---- all rows by one rule

-- the rows that stay, their NOTIFYs, and the tags of the transfers that go, each in the order of the rows
pub record Swept : Type 0 where
  pub rows : List Row
  pub notifies : List Send
  pub gone : List (List ℕ)

-- the tag of the transfer of a row that goes
unfoldable pub gone_at : (Row → Turned) → Row → List (List ℕ)
gone_at rule row =
    if is_of_refer row.sub.want.event && is_none (rule row).row then row.sub.usage.local_tag ∷ [] else []

unfoldable pub sweep : (Row → Turned) → List Row → Swept
sweep rule rows = record {
  rows = flat_map (λ row. option_to_list (rule row).row) rows;
  notifies = flat_map (λ row. (rule row).notifies) rows;
  gone = flat_map (gone_at rule) rows;
}

module _ {maps : Maps} where
  -- the boxes without these transfers
  unfoldable pub forgetting : List (List ℕ) → List (SeenBy maps) → List (SeenBy maps)
  forgetting [] boxes = boxes
  forgetting (tag ∷ tags) boxes = forgetting tags (change_first boxes (Forget tag)).1

-- the dialog after a step
abbrev pub usage_after : Step → Usage
usage_after (Live sub notice) = sub.usage
usage_after (Over usage want notice) = usage

-- ---- a request in a dialog

-- the rule for one row alone
abbrev pub has_serial : ℕ → Row → Bool
has_serial serial row = row.serial == serial

unfoldable pub only : ℕ → (Row → Turned) → Row → Turned
only serial rule = wherever (has_serial serial) rule

-- Call-ID and both tags name the dialog (RFC 3261 section 12)
unfoldable pub is_dialog : Request → List ℕ → Row → Bool
is_dialog r tag row =
    bytes_eq row.sub.usage.call_id r.head.call_id
    && (bytes_eq row.sub.usage.local_tag tag && bytes_eq row.sub.usage.remote_tag (or_empty r.head.from.tag))

-- a request that is denied in its dialog moves the dialog's CSeq too (RFC 3261 section 12.2.2)
unfoldable pub counted : Request → Row → Turned
counted r row = stays (record row { last_cseq = r.head.cseq })

-- a SUBSCRIBE in the dialog: asked for no time it ends, else it is refreshed for the time granted
unfoldable pub renewed_sub : Place → ℕ → Addr → Request → State → Step
renewed_sub place clock source r sub =
    if asks_nothing place.limits r then over (end sub Timeout)
    else refresh sub r.head.cseq (value_of r.contact) source clock (granted place.limits r)

module _ {maps : Maps} where
  unfoldable pub renewed : Telling maps → Addr → Request → Row → Turned
  renewed t source r row =
      turned t source (with_sub (record row { last_cseq = r.head.cseq })) (renewed_sub t.place t.clock source r row.sub)

-- ---- other events

abbrev pub watches : List ℕ → List ℕ → Row → Bool
watches name resource row = bytes_eq row.sub.want.event.package name && bytes_eq row.sub.want.resource resource

module _ {maps : Maps} where
  -- what a row watches has changed, and may be over for good
  unfoldable pub tells_change : Telling maps → Bool → Row → Turned
  tells_change t is_over row = tells t row (changed row.sub t.clock is_over)

  -- a change tells those who watch it
  unfoldable pub tells_watcher : Telling maps → List ℕ → List ℕ → Bool → Row → Turned
  tells_watcher t name resource is_over = wherever (watches name resource) (tells_change t is_over)

-- the time of its subscription is up
abbrev pub is_due : ℕ → Row → Bool
is_due clock row = nat_le row.sub.due clock

-- a NOTIFY of it was unanswered for too long
abbrev pub is_late : ℕ → Unanswered → Bool
is_late clock notify = nat_le patience (clock - notify.moment)

unfoldable pub is_overdue : ℕ → Row → Bool
is_overdue clock row = list_any (is_late clock) row.unanswered

module _ {maps : Maps} where
  -- Time goes on. First a row of which a NOTIFY was unanswered for too long goes, untold (RFC 6665 section 4.2.2). Else, if its
  -- time is up, it gets a last NOTIFY (section 4.2.1.4).
  unfoldable pub times_out : Telling maps → Row → Turned
  times_out t row = if is_overdue t.clock row then goes else wherever (is_due t.clock) (ends t Timeout) row

  -- the planned stop ends every row (RFC 6665 section 4.1.3)
  unfoldable pub stops : Telling maps → Row → Turned
  stops t row = ends t Deactivated row

-- the response answers one of its NOTIFYs
abbrev pub is_answered_by : Response → Row → Bool
is_answered_by response row = is_answer_to row.sub response

-- the NOTIFY with this number isn't unanswered any more
abbrev pub has_number : ℕ → Unanswered → Bool
has_number number notify = notify.number == number

unfoldable pub closed : ℕ → Row → Row
closed number row = record row { unanswered = filter (λ notify. not (has_number number notify)) row.unanswered }

-- by its status: a 481 ends the row, untold; any other final one closes its NOTIFY (RFC 3261 section 7.2)
unfoldable pub takes_answer : Response → Row → Turned
takes_answer response row =
    if refuses response then goes
    else if is_final response.status then stays (closed response.head.cseq row)
    else stays row

unfoldable pub answered : Response → Row → Turned
answered response = wherever (is_answered_by response) (takes_answer response)
