-- What the taker got of a crew that was joined, told by the lives of subscriptions.
use Rattle.std.specs.Prelude.{ℕ, ◌≡◌, ◌<◌, ◌^◌, true, List, Some}
use Rattle.sip_read.specs.declared.message.Request.{Request}
use Rattle.queues.specs.declared.items.Item.{Item}
use Rattle.queues.specs.Items.{items_of}
use Rattle.queues.specs.Values.{values}
use Rattle.notifier_model.specs.declared.event.Event.{Event}
use Rattle.notifier_model.specs.declared.event.Out.{Out}
use Rattle.notifier_model.specs.Out.{Notification}
use Rattle.notifier_model.specs.Start.{Start, tag_of}
use Rattle.notifier.specs.Standing.{first_standing}
use Rattle.queues.specs.InboxEvents.{events_of}
use Rattle.crew.specs.Worked.{handled_of}
use Rattle.crew.specs.declared.end.End.TheVariants.{Closed}
use Rattle.crew.specs.Started.{Hired}
use Rattle.crew.specs.Joined.{Reported}
use Rattle.crew.specs.declared.report.WorkerReport.{WorkerReport}
use Rattle.life.specs.Notices.{newest_first, notices}
use Rattle.life.specs.Laws.{IsStart, AreNotifies, notifies_with}
use Rattle.life.specs.Own.{born_of}
use Rattle.life.specs.Apart.{own_requests_are_new}
use Rattle.life.specs.IsolationLaws.{IsLike, alone}

-- the events that the worker handled
abbrev pub events_handled : Hired → WorkerReport → List Event
events_handled h report = handled_of h.stands h.reads.ports report.receiver.taken report.handled

-- the local tag of the worker's subscription
abbrev pub its_tag : Hired → ℕ → List ℕ
its_tag h serial = tag_of h.stands.place serial

-- its NOTIFYs among what the taker got of the worker
abbrev pub its_notifies : Hired → List (Item Out) → ℕ → List Out
its_notifies h got serial = notifies_with (its_tag h serial) (values (items_of h.posts.number got))

-- these events, newest first, as lives are told
abbrev pub its_past : Hired → WorkerReport → List Event
its_past h report = newest_first (events_handled h report)

-- what the subscription's watcher is told of them, where the worker began with a new desk of this start
abbrev pub its_notices : Start → Hired → WorkerReport → ℕ → List Notification
its_notices start h report serial = notices start serial (its_past h report)

-- A worker that ended as Closed handled all events that it took.
abbrev pub AllLaw : Type 0
AllLaw = (h : Hired) (got : List (Item Out)) (report : WorkerReport) → Reported h got report → report.end ≡ Closed →
    events_handled h report ≡ events_of h.stands.place.stop h.reads.ports report.receiver.taken

-- What the taker got of a subscription is what its life tells over the events that its worker handled, all of it.
abbrev pub LifeLaw : Type 0
LifeLaw = (start : Start) (h : Hired) (got : List (Item Out)) (report : WorkerReport) (serial : ℕ) →
    IsStart start → serial < 2 ^ 64 → h.stands ≡ first_standing start → Reported h got report →
    AreNotifies (its_tag h serial) (its_notices start h report serial) (its_notifies h got serial)

-- It is what the subscription would be told of its own events alone: whatever other workers there were, how many, and whatever
-- else came to its own.
abbrev pub AloneLaw : Type 0
AloneLaw = (start : Start) (h : Hired) (got : List (Item Out)) (report : WorkerReport) (other : Start) (serial : ℕ) (x : Request) →
    IsStart start → serial < 2 ^ 64 → h.stands ≡ first_standing start → Reported h got report →
    born_of start serial (its_past h report) ≡ Some x → IsLike start other x →
    own_requests_are_new start serial x (its_past h report) ≡ true →
    AreNotifies (its_tag h serial)
    (notices other 1 (alone start other serial x (its_past h report)))
    (its_notifies h got serial)
