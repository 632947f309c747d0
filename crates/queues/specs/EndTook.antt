-- What a take tells: the receiver's seat before, what it answers, the seat after.
use Rattle.std.specs.Prelude.{◌≡◌, ◌<◌, ℕ, false}
use Rattle.queues.specs.declared.many_to_one.Taken.{Taken}
use Rattle.queues.specs.declared.many_to_one.Taken.TheVariants.{Event, Ended}
use Rattle.queues.specs.Items.{items_of, has_end}
use Rattle.queues.specs.Values.{value_item, end_item}
use Rattle.queues.specs.EndSeats.{ReceiverSeat, with_taken}

module _ {T : Type 0} where
  -- the port is one of this inbox, and its end mark was not taken yet
  abbrev pub IsOpen : ReceiverSeat T → ℕ → Type 0
  IsOpen r port = (port < r.ports) × (has_end (items_of port r.taken) ≡ false)

  -- what was taken grew by just what is answered: an event of some open port, or the end mark of one
  abbrev pub Took : ReceiverSeat T → Taken T → ReceiverSeat T → Type 0
  Took old (Event event) new = (port : ℕ) × (new ≡ with_taken old (value_item port event)) × IsOpen old port
  Took old (Ended port) new = (new ≡ with_taken old (end_item port)) × IsOpen old port
