-- What a take tells: the worker's seat before, what it answers, the seat after.
use Rattle.queues.specs.EndTook as ends
use Rattle.queues.specs.declared.many_to_one.Taken.{Taken}
use Rattle.notifier_model.specs.declared.event.Event.{Event}
use Rattle.queues.specs.InboxSeats.{ReceiverSeat}

-- what was taken grew by just what is answered: an event of some open port, or the end mark of one
abbrev pub Took : ReceiverSeat → Taken Event → ReceiverSeat → Type 0
Took old taken new = ends.Took old taken new
