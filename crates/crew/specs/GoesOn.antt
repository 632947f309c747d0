-- What a crew tells that goes on from saved books: what it would tell had its process only been slow.
--
-- A worker of it begins where a notifier of some start stood after the events `before`. What went out for those, and then what the
-- taker got since, is what one notifier sends for `before` and the events that the worker handled, one list after the other. So each
-- law of a subscription's life holds over both lists. Where nothing came before, each is the law of the same name in `Laws`, `Whole`
-- and `OneHome`.
use Rattle.std.specs.Prelude.{ℕ, ◌≡◌, ◌<◌, ◌^◌, ◌++◌, true, List, length, slice_get, Some}
use Rattle.std.specs.List.{All}
use Rattle.sip_read.specs.declared.message.Request.{Request}
use Rattle.queues.specs.declared.items.Item.{Item}
use Rattle.queues.specs.Items.{items_of}
use Rattle.queues.specs.Values.{values}
use Rattle.notifier_model.specs.declared.event.Event.{Event}
use Rattle.notifier_model.specs.declared.event.Out.{Out}
use Rattle.notifier_model.specs.Home.{comes_to, is_for_all}
use Rattle.notifier_model.specs.Out.{Notification}
use Rattle.notifier_model.specs.Run.{run}
use Rattle.notifier_model.specs.Start.{Start}
use Rattle.notifier.specs.Standing.{Standing}
use Rattle.crew.specs.Elsewhere.{HaveAllSeats, events_taken}
use Rattle.crew.specs.Joined.{Reported}
use Rattle.crew.specs.Laws.{events_handled, its_tag}
use Rattle.crew.specs.Started.{Hired}
use Rattle.crew.specs.Whole.{AllBy, IsCrewRunFrom}
use Rattle.crew.specs.declared.report.WorkerReport.{WorkerReport}
use Rattle.life.specs.Apart.{own_requests_are_new}
use Rattle.life.specs.IsolationLaws.{IsLike, alone}
use Rattle.life.specs.Laws.{IsStart, AreNotifies, notifies_with, outs}
use Rattle.life.specs.Lives.{concerns}
use Rattle.life.specs.Notices.{newest_first, notices}
use Rattle.life.specs.Own.{born_of}
use Rattle.schedules.specs.Laws.{Rise}

-- ---- one worker

-- how a desk of this start stands after these events
abbrev pub standing_after : Start → List Event → Standing
standing_after start events = record { place = start.place; book = run start events }

-- all events of a worker: those before, and those that it handled since
abbrev pub events_in_all : List Event → Hired → WorkerReport → List Event
events_in_all before h report = before ++ events_handled h report

-- all that went out of it: what its start sends for the events before, and what the taker got since
abbrev pub outs_in_all : Start → List Event → Hired → List (Item Out) → List Out
outs_in_all start before h got = outs start before ++ values (items_of h.posts.number got)

-- what the watcher of a subscription is told in all
abbrev pub notices_in_all : Start → List Event → Hired → WorkerReport → ℕ → List Notification
notices_in_all start before h report serial = notices start serial (newest_first (events_in_all before h report))

-- All that went out is what one notifier sends for all events, as if its process had only been slow.
abbrev pub GoesOnLaw : Type 0
GoesOnLaw = (start : Start) (before : List Event) (h : Hired) (got : List (Item Out)) (report : WorkerReport) →
    h.stands ≡ standing_after start before → Reported h got report →
    outs_in_all start before h got ≡ outs start (events_in_all before h report)

-- So the NOTIFYs of a subscription are those of its life over all events.
abbrev pub LifeGoesOnLaw : Type 0
LifeGoesOnLaw = (start : Start) (before : List Event) (h : Hired) (got : List (Item Out)) (report : WorkerReport) (serial : ℕ) →
    IsStart start → serial < 2 ^ 64 → h.stands ≡ standing_after start before → Reported h got report →
    AreNotifies (its_tag h serial) (notices_in_all start before h report serial)
    (notifies_with (its_tag h serial) (outs_in_all start before h got))

-- They are those of its own events alone, whichever of them came before.
abbrev pub AloneGoesOnLaw : Type 0
AloneGoesOnLaw = (start : Start) (before : List Event) (h : Hired) (got : List (Item Out)) (report : WorkerReport)
    (other : Start) (serial : ℕ) (x : Request) →
    IsStart start → serial < 2 ^ 64 → h.stands ≡ standing_after start before → Reported h got report →
    born_of start serial (newest_first (events_in_all before h report)) ≡ Some x → IsLike start other x →
    own_requests_are_new start serial x (newest_first (events_in_all before h report)) ≡ true →
    AreNotifies (its_tag h serial)
    (notices other 1 (alone start other serial x (newest_first (events_in_all before h report))))
    (notifies_with (its_tag h serial) (outs_in_all start before h got))

-- ---- all workers

-- a crew from its start to its end, of which each worker went on where one of its start stood after its events before
abbrev pub WentOn : (ℕ → Start) → (ℕ → List Event) → List Hired → List (Item Out) → List WorkerReport → Type 0
WentOn start before crew got reports = IsCrewRunFrom start (λ w. standing_after (start w) (before w)) crew got reports

-- Behind what went out for a worker's events before, no other worker's NOTIFYs have the tag of its subscription: those that have it are
-- those of its life over all events.
abbrev pub WholeGoesOnLaw : Type 0
WholeGoesOnLaw = (start : ℕ → Start) (before : ℕ → List Event) (crew : List Hired) (got : List (Item Out)) (reports : List WorkerReport)
    (w serial : ℕ) (h : Hired) (r : WorkerReport) →
    WentOn start before crew got reports → AllBy (length crew) got →
    slice_get crew w ≡ Some h → slice_get reports w ≡ Some r → serial < 2 ^ 64 →
    AreNotifies (its_tag h serial) (notices_in_all (start w) (before w) h r serial)
    (notifies_with (its_tag h serial) (outs (start w) (before w) ++ values got))

-- They are numbered 1, 2, 3 and so on over both lists, and none follows a terminated one.
abbrev pub RisingGoesOnLaw : Type 0
RisingGoesOnLaw = (start : ℕ → Start) (before : ℕ → List Event) (crew : List Hired) (got : List (Item Out)) (reports : List WorkerReport)
    (w serial : ℕ) (h : Hired) →
    WentOn start before crew got reports → AllBy (length crew) got → slice_get crew w ≡ Some h → serial < 2 ^ 64 →
    Rise (notifies_with (its_tag h serial) (outs (start w) (before w) ++ values got))

-- The events before all came to worker w, and a subscription was born of these, or of what w took since. Then no other worker took anything
-- that concerns the subscription, but what goes to all.
abbrev pub OneHomeGoesOnLaw : Type 0
OneHomeGoesOnLaw = (start : ℕ → Start) (before : ℕ → List Event) (crew : List Hired) (got : List (Item Out)) (reports : List WorkerReport)
    (w v serial : ℕ) (x : Request) (h g : Hired) (r s : WorkerReport) (run : WentOn start before crew got reports) →
    HaveAllSeats crew run.ports → All (λ e. comes_to (length crew) w e ≡ true) (before w) →
    (v ≡ w → ⊥) →
    slice_get crew w ≡ Some h → slice_get reports w ≡ Some r →
    slice_get crew v ≡ Some g → slice_get reports v ≡ Some s →
    born_of (start w) serial (newest_first (before w ++ events_taken h r)) ≡ Some x →
    All (λ e. concerns (its_tag h serial) x e ≡ true → is_for_all e ≡ true) (events_taken g s)
