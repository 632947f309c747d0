-- The NOTIFYs of a life (RFC 6665 section 4.2.2): what a subscription's watcher is told.
use Rattle.std.specs.Prelude.{ℕ, ◌-◌, List, [], ◌∷◌, ◌++◌, if◌then◌else◌, Some, None, Option}
use Rattle.package.specs.Content.{Maps}
use Rattle.package.specs.Bodies.{status_body, body_of_held}
use Rattle.subscription.specs.declared.notify.Phase.{Phase}
use Rattle.subscription.specs.declared.notify.Phase.TheVariants.{Active, Terminated}
use Rattle.subscription.specs.declared.notify.Reason.{Reason}
use Rattle.subscription.specs.Written.{state_of}
use Rattle.notifier_model.specs.declared.event.Event.{Event}
use Rattle.notifier_model.specs.Limits.{Limits}
use Rattle.notifier_model.specs.Start.{StartBy}
use Rattle.notifier_model.specs.Requests.{is_refer, user_part}
use Rattle.notifier_model.specs.Out.{Notification}
use Rattle.life.specs.Life.{Life, address, birth, end_of_grant, event_of_life, is_touched, number, status, terminated, mailbox, target}
use Rattle.life.specs.Lives.{befell}
use Rattle.life.specs.Past.{content, now}

-- active for the time that is left, or terminated (RFC 6665 section 4.1.3)
unfoldable pub phase : Limits → ℕ → Life → Option Reason → Phase
phase limits moment l None = Active (end_of_grant limits l - moment)
phase limits moment l (Some reason) = Terminated reason

module _ {maps : Maps} where
  -- all that its resource holds after these events (RFC 3842 section 5, RFC 3515 section 2.4.5)
  unfoldable pub body : StartBy maps → List Event → Life → List ℕ
  body start past l =
      if is_refer (birth l) then status_body (status l).0 (status l).1
      else body_of_held (content start past (event_of_life l).package (user_part (birth l).uri))

  -- number, state, body, and where it goes; who watches what, and the remote target and the Call-ID of the dialog
  unfoldable pub notice_of : StartBy maps → List Event → Life → Notification
  notice_of start past l = record {
    number = number start.place.limits l;
    state = state_of (phase start.place.limits (now past) l (terminated start.place.limits l));
    body = body start past l;
    to = address start.place.limits l;
    watcher = (birth l).head.from.text;
    mailbox = mailbox l;
    target = target start.place.limits l;
    call_id = (birth l).head.call_id;
  }

  -- the NOTIFY at an event, by what befell the subscription there
  unfoldable pub notices_at : StartBy maps → List Event → Option Life → List Notification
  notices_at start past None = []
  notices_at start past (Some l) = if is_touched start.place.limits l then notice_of start past l ∷ [] else []

  -- the NOTIFYs of the subscription with this serial, oldest first: one at each event that touched it
  unfoldable pub notices : StartBy maps → ℕ → List Event → List Notification
  notices start serial [] = []
  notices start serial (e ∷ past) = notices start serial past ++ notices_at start (e ∷ past) (befell start past e serial)

abbrev pub onto : List Event → List Event → List Event
onto past [] = past
onto past (e ∷ es) = onto (e ∷ past) es

-- events that stand as they came, newest first
abbrev pub newest_first : List Event → List Event
newest_first es = onto [] es
