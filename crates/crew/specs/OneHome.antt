-- That one worker of a joined crew took all that concerns a subscription, by what the reports say of where it was born.
use Rattle.std.specs.Prelude.{ℕ, ◌≡◌, true, List, slice_get, Some}
use Rattle.std.specs.List.{All}
use Rattle.sip_read.specs.declared.message.Request.{Request}
use Rattle.queues.specs.declared.items.Item.{Item}
use Rattle.notifier_model.specs.declared.event.Out.{Out}
use Rattle.notifier_model.specs.Home.{is_for_all}
use Rattle.notifier_model.specs.Start.{Start}
use Rattle.crew.specs.Elsewhere.{HaveAllSeats, events_taken}
use Rattle.crew.specs.Laws.{its_tag}
use Rattle.crew.specs.Started.{Hired}
use Rattle.crew.specs.Whole.{IsCrewRun}
use Rattle.crew.specs.declared.report.WorkerReport.{WorkerReport}
use Rattle.life.specs.Lives.{concerns}
use Rattle.life.specs.Notices.{newest_first}
use Rattle.life.specs.Own.{born_of}

-- Where the ports that were handed to `join` have all seats, and a subscription was born of what
-- worker w took, no other worker took anything that concerns it, but what goes to all: ticks, and the planned stop.
abbrev pub OneHomeLaw : Type 0
OneHomeLaw = (start : ℕ → Start) (crew : List Hired) (got : List (Item Out)) (reports : List WorkerReport)
    (w v serial : ℕ) (x : Request) (h g : Hired) (r s : WorkerReport) (run : IsCrewRun start crew got reports) →
    HaveAllSeats crew run.ports → (v ≡ w → ⊥) →
    slice_get crew w ≡ Some h → slice_get reports w ≡ Some r →
    slice_get crew v ≡ Some g → slice_get reports v ≡ Some s →
    born_of (start w) serial (newest_first (events_taken h r)) ≡ Some x →
    All (λ e. concerns (its_tag h serial) x e ≡ true → is_for_all e ≡ true) (events_taken g s)
