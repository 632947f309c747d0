-- That no other worker of a joined crew got what concerns a subscription, ticks and the planned stop apart.
use Rattle.std.specs.Prelude.{ℕ, ◌≡◌, ◌<◌, true, List, length, Contains, slice_get, Some}
use Rattle.std.specs.List.{All}
use Rattle.sip_text.specs.declared.address.Addr.{Addr}
use Rattle.sip_read.specs.declared.message.Request.{Request}
use Rattle.queues.specs.declared.items.Item.{Item}
use Rattle.notifier_model.specs.declared.event.Event.{Event}
use Rattle.notifier_model.specs.declared.event.Out.{Out}
use Rattle.notifier_model.specs.Home.{is_for_all}
use Rattle.notifier_model.specs.Start.{Start, tag_of}
use Rattle.queues.specs.InboxEvents.{events_of}
use Rattle.queues.specs.InboxSeats.{SenderSeat}
use Rattle.queues.specs.OutboxSeats.{TakerSeat}
use Rattle.crew.specs.Joined.{IsJoined}
use Rattle.crew.specs.Kept.{AllClosed}
use Rattle.crew.specs.Ports.{PortSeats}
use Rattle.notifier.specs.Standing.{Standing}
use Rattle.crew.specs.Started.{Hired, HaveBegun}
use Rattle.crew.specs.declared.report.WorkerReport.{WorkerReport}
use Rattle.life.specs.Lives.{concerns}
use Rattle.life.specs.Together.{IsBornAtHome}

-- these ports have all seats: each has one for each worker, and each number of a worker's inbox is that of one of their seats there
pub record HaveAllSeats (crew : List Hired) (ports : List PortSeats) : Type 0 where
  pub len : All (λ (q : PortSeats). length q.seats ≡ length crew) ports
  pub each : (w k : ℕ) (h : Hired) → slice_get crew w ≡ Some h → k < h.reads.ports
      → (q : PortSeats) × (s : SenderSeat) × Contains ports q × (slice_get q.seats w ≡ Some s) × (s.number ≡ k)

-- all events that the worker took from its inbox, and the planned stop where there is one
abbrev pub events_taken : Hired → WorkerReport → List Event
events_taken h report = events_of h.stands.place.stop h.reads.ports report.receiver.taken

-- the ports of a new crew, closed, have all seats
abbrev pub EveryPortLaw : Type 0
EveryPortLaw = (stands : ℕ → Standing) (n : ℕ) (crew : List Hired) (dealt ports : List PortSeats) (taker : TakerSeat) →
    HaveBegun stands (length crew) n crew dealt taker → AllClosed dealt ports → HaveAllSeats crew ports

-- Where the ports that were handed to `join` have all seats, a worker other than the one that a
-- subscription has its home at took nothing that concerns it, but what goes to all.
abbrev pub NowhereElseLaw : Type 0
NowhereElseLaw = (crew : List Hired) (ports : List PortSeats) (got : List (Item Out)) (reports : List WorkerReport)
    (start : Start) (serial other : ℕ) (source : Addr) (x : Request) (past : List Event) (h : Hired) (r : WorkerReport) →
    IsJoined crew ports got reports → HaveAllSeats crew ports →
    IsBornAtHome (length crew) start serial source x past → (other ≡ start.place.worker → ⊥) →
    slice_get crew other ≡ Some h → slice_get reports other ≡ Some r →
    All (λ e. concerns (tag_of start.place serial) x e ≡ true → is_for_all e ≡ true) (events_taken h r)
