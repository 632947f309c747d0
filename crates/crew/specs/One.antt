-- What a report tells of a crew with one port.
use Rattle.std.specs.Prelude.{◌≡◌, List, ◌++◌, length}
use Rattle.queues.specs.declared.items.Item.{Item}
use Rattle.queues.specs.Items.{items_of}
use Rattle.queues.specs.Values.{values}
use Rattle.notifier_model.specs.declared.event.Event.{Event}
use Rattle.notifier_model.specs.declared.event.Out.{Out}
use Rattle.queues.specs.InboxSeats.{SenderSeat}
use Rattle.notifier_model.specs.Home.{at_the_stop}
use Rattle.crew.specs.Worked.{outs_for}
use Rattle.crew.specs.declared.end.End.TheVariants as end
use Rattle.crew.specs.Started.{Hired}
use Rattle.crew.specs.Joined.{Reported, IsHeard}
use Rattle.crew.specs.declared.report.WorkerReport.{WorkerReport}

-- the events of a worker to which one port sent this, and which came to its end
abbrev pub all_events : Hired → SenderSeat → List Event
all_events h seat = values seat.sent ++ at_the_stop h.stands.place.stop

-- of one port, a worker that came to its end took what the port sent, and the taker got the outs of all its events
abbrev pub TellsAll : Hired → List (Item Out) → WorkerReport → SenderSeat → Type 0
TellsAll h got report seat = h.reads.ports ≡ 1 → seat.number ≡ 0 → report.end ≡ end.Closed
    → (report.receiver.taken ≡ seat.sent)
    × (report.handled ≡ length (all_events h seat))
    × (values (items_of h.posts.number got) ≡ outs_for h.stands (all_events h seat))

abbrev pub OnePortLaw : Type 0
OnePortLaw = (h : Hired) (got : List (Item Out)) (report : WorkerReport) (seat : SenderSeat)
    → Reported h got report → IsHeard report seat → TellsAll h got report seat
