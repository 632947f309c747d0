-- What the report of a crew tells.
use Rattle.std.specs.Prelude.{◌≡◌, ◌<◌, true, false, List, length}
use Rattle.std.specs.List.{All, AllZip}
use Rattle.queues.specs.declared.items.Item.{Item}
use Rattle.queues.specs.Items.{items_of, has_end, StartsWith, TookInOrder}
use Rattle.queues.specs.Values.{values}
use Rattle.notifier_model.specs.declared.event.Event.{Event}
use Rattle.notifier_model.specs.declared.event.Out.{Out}
use Rattle.queues.specs.InboxSeats.{SenderSeat}
use Rattle.queues.specs.OutboxSeats.{TakerSeat}
use Rattle.crew.specs.AtHome.{AreAtHome}
use Rattle.crew.specs.Worked.{AllFrom, Ends, handled_of, outs_for}
use Rattle.crew.specs.Ports.{PortSeats}
use Rattle.crew.specs.Started.{Hired}
use Rattle.crew.specs.declared.report.WorkerReport.{WorkerReport}
use Rattle.crew.specs.declared.end.End.{End}
use Rattle.crew.specs.declared.end.End.TheVariants.{Closed, NoMemory, Abandoned}

-- the taker is of the worker's outbox, and has its end mark
pub record HasEndOf (taker : TakerSeat) (h : Hired) : Type 0 where
  pub outbox : h.posts.outbox ≡ taker.outbox
  pub mark : has_end (items_of h.posts.number taker.got) ≡ true

-- The seat is one of a port of the worker's inbox, which has `h.reads.ports` of them.
pub record IsSeatOf (h : Hired) (seat : SenderSeat) : Type 0 where
  pub inbox : seat.inbox ≡ h.reads.inbox
  pub number : seat.number < h.reads.ports

-- a closed port of the crew: its seats are of the workers' inboxes, one each, in their order
pub record IsPortOf (crew : List Hired) (port : PortSeats) : Type 0 where
  pub closed : port.is_open ≡ false
  pub seats : AllZip IsSeatOf crew port.seats

-- what the report tells of its worker: what it took is of its inbox, how it ended, and that the taker got all outs of the
-- events that it handled, and no others
pub record Reported (h : Hired) (got : List (Item Out)) (report : WorkerReport) : Type 0 where
  pub inbox : report.receiver.inbox ≡ h.reads.inbox
  pub ports : report.receiver.ports ≡ h.reads.ports
  pub among : AllFrom h.reads.ports report.receiver.taken
  pub ends : Ends h.stands.place.stop h.reads.ports report.receiver.taken report.handled report.end
  pub outs : values (items_of h.posts.number got)
      ≡ outs_for h.stands (handled_of h.stands h.reads.ports report.receiver.taken report.handled)
  pub total : report.made
      ≡ length (outs_for h.stands (handled_of h.stands h.reads.ports report.receiver.taken report.handled))

-- what came of what a port sent: all, but of a worker that was abandoned the beginning
abbrev pub Arrived : End → List (Item Event) → List (Item Event) → Type 0
Arrived Closed sent came = came ≡ sent
Arrived (NoMemory j) sent came = came ≡ sent
Arrived (Abandoned full) sent came = StartsWith sent came

-- what the report tells of a port's seat: what its worker took of the port, beside what the port sent; where the port's end
-- mark was taken it is all, too
pub record IsHeard (report : WorkerReport) (seat : SenderSeat) : Type 0 where
  pub arrived : Arrived report.end seat.sent (items_of seat.number report.receiver.taken)
  pub came : TookInOrder seat.number report.receiver.taken seat.sent

-- a report for each worker, in their order, which tells of the worker, and of each port's seat of its inbox; each port sent events to
-- their homes, and to all what goes to all
pub record IsJoined (crew : List Hired) (ports : List PortSeats) (got : List (Item Out)) (reports : List WorkerReport) : Type 0 where
  pub reported : AllZip (λ (h : Hired) (r : WorkerReport). Reported h got r) crew reports
  pub heard : All (λ (q : PortSeats). AllZip IsHeard reports q.seats) ports
  pub home : All (λ (q : PortSeats). AreAtHome (length crew) q.seats) ports
