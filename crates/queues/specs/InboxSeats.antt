-- What contracts see of the ends of an inbox: those of a queue of many ports to one receiver, with events.
use Rattle.std.specs.Prelude.{ℕ, List}
use Rattle.queues.specs.declared.items.Item.{Item}
use Rattle.queues.specs.EndSeats as ends
use Rattle.notifier_model.specs.declared.event.Event.{Event}

-- which inbox it is
abbrev pub Inbox : Type 0
Inbox = ends.Inbox Event

-- a port's seat: its inbox, the port's number, and what it has sent
abbrev pub SenderSeat : Type 0
SenderSeat = ends.SenderSeat Event

-- the worker's seat: its inbox, how many ports that has, and what was taken
abbrev pub ReceiverSeat : Type 0
ReceiverSeat = ends.ReceiverSeat Event

-- the seat after one item more
abbrev pub with_sent : SenderSeat → Item Event → SenderSeat
with_sent s x = ends.with_sent s x

abbrev pub with_taken : ReceiverSeat → Item Event → ReceiverSeat
with_taken r x = ends.with_taken r x

-- the seats of a new inbox: ports numbered 0, 1, 2 .., which have sent nothing, and the worker's
abbrev pub new_senders : Inbox → ℕ → List SenderSeat
new_senders inbox n = ends.new_senders inbox n

abbrev pub new_receiver : Inbox → ℕ → ReceiverSeat
new_receiver inbox ports = ends.new_receiver inbox ports
