-- All that the taker of a joined crew got of a subscription, from whichever worker.
use Rattle.std.specs.Prelude.{ℕ, ◌≡◌, ◌<◌, ◌^◌, List, [], ◌∷◌, length, slice_get, Some}
use Rattle.queues.specs.declared.items.Item.{Item}
use Rattle.queues.specs.Values.{values}
use Rattle.notifier_model.specs.declared.event.Out.{Out}
use Rattle.notifier_model.specs.Start.{Start}
use Rattle.notifier.specs.Standing.{Standing, first_standing}
use Rattle.queues.specs.OutboxSeats.{Outbox, TakerSeat, new_taker}
use Rattle.queues.specs.OutboxTook.{Took}
use Rattle.queues.specs.declared.outbox.Posted.{Posted}
use Rattle.crew.specs.Joined.{IsJoined}
use Rattle.crew.specs.Ports.{PortSeats}
use Rattle.crew.specs.Started.{Hired, HaveBegun}
use Rattle.crew.specs.declared.report.WorkerReport.{WorkerReport}
use Rattle.life.specs.Laws.{AreNotifies, notifies_with}
use Rattle.schedules.specs.Laws.{AreStarts, Rise}
use Rattle.crew.specs.Laws.{its_notices, its_tag}
use Rattle.std.specs.List.{All}

-- each item is of one of the first n workers
abbrev pub AllBy : ℕ → List (Item Out) → Type 0
AllBy n items = All (λ (x : Item Out). x.from < n) items

-- the taker's seat before and after it took these, one after the other
abbrev pub TookAll : TakerSeat → List Posted → TakerSeat → Type 0
TookAll old [] new = new ≡ old
TookAll old (posted ∷ more) new = (mid : TakerSeat) × Took old posted mid × TookAll mid more new

-- What a taker got since it was made is of its workers, whatever it took.
abbrev pub TookLaw : Type 0
TookLaw = (outbox : Outbox) (workers : ℕ) (took : List Posted) (taker : TakerSeat) →
    TookAll (new_taker outbox workers) took taker → AllBy workers taker.got

-- a crew from its start to its end, whose workers began with desks that stood so: how it started, what its taker got, and what its
-- report tells
pub record IsCrewRunFrom (start : ℕ → Start) (stands : ℕ → Standing) (crew : List Hired) (got : List (Item Out)) (reports : List WorkerReport) : Type 0 where
  -- so many ports were dealt at its start
  pub n : ℕ
  pub dealt : List PortSeats
  -- and these were handed to `join` at its end
  pub ports : List PortSeats
  pub taker : TakerSeat
  pub starts : AreStarts (record { ports = n; workers = length crew; start = start })
  pub started : HaveBegun stands (length crew) n crew dealt taker
  pub joined : IsJoined crew ports got reports

-- they began with new desks
abbrev pub IsCrewRun : (ℕ → Start) → List Hired → List (Item Out) → List WorkerReport → Type 0
IsCrewRun start crew got reports = IsCrewRunFrom start (λ w. first_standing (start w)) crew got reports

-- Where the taker got nothing but what its workers posted: of all that it got, from whichever worker, the NOTIFYs with a
-- subscription's tag are those of its life over the events that its worker handled. No other worker's NOTIFYs have its tag.
abbrev pub WholeLaw : Type 0
WholeLaw = (start : ℕ → Start) (crew : List Hired) (got : List (Item Out)) (reports : List WorkerReport)
    (w serial : ℕ) (h : Hired) (r : WorkerReport) →
    IsCrewRun start crew got reports → AllBy (length crew) got →
    slice_get crew w ≡ Some h → slice_get reports w ≡ Some r → serial < 2 ^ 64 →
    AreNotifies (its_tag h serial) (its_notices (start w) h r serial) (notifies_with (its_tag h serial) (values got))

-- They are numbered 1, 2, 3 and so on, and none follows a terminated one.
abbrev pub RisingLaw : Type 0
RisingLaw = (start : ℕ → Start) (crew : List Hired) (got : List (Item Out)) (reports : List WorkerReport)
    (w serial : ℕ) (h : Hired) →
    IsCrewRun start crew got reports → AllBy (length crew) got → slice_get crew w ≡ Some h → serial < 2 ^ 64 →
    Rise (notifies_with (its_tag h serial) (values got))
