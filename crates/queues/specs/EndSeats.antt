-- What contracts see of the ends of a queue.
use Rattle.std.specs.Prelude.{ℕ, zero, suc, List, [], ◌∷◌, ◌++◌}
use Rattle.atomic_table.specs.Seated.{TableId}
use Rattle.atomic_table.specs.declared.badge.Badge.{Badge}
use Rattle.crossbeam_channel.specs.declared.flavors.array.Key.{Key}
use Rattle.crossbeam_channel.specs.declared.flavors.array.Rows.{Rows}
use Rattle.queues.specs.declared.items.Item.{Item}

-- which inbox it is, and how many items it holds at most
pub record Inbox (T : Type 0) : Type 0 where
  pub table : TableId
  pub key : Badge (Key (Item T))
  pub capacity : ℕ

-- a port's seat: its inbox, the port's number, and what it has sent
pub record SenderSeat (T : Type 0) : Type 0 where
  pub inbox : Inbox T
  pub number : ℕ
  pub sent : List (Item T)

-- the receiver's seat: its inbox, how many ports that has, and what was taken
pub record ReceiverSeat (T : Type 0) : Type 0 where
  pub inbox : Inbox T
  pub ports : ℕ
  pub taken : List (Item T)

module _ {T : Type 0} where
  -- the inbox of a channel's end
  abbrev pub inbox_of : {D Q M L A : Type 0} → Rows (Badge (Key (Item T))) D Q M (Key (Item T)) L A → Inbox T
  inbox_of c = record { table = c.stamps.shared.table_id; key = c.stamps.shared.key; capacity = c.cap }

  -- the seat after one item more
  abbrev pub with_sent : SenderSeat T → Item T → SenderSeat T
  with_sent s x = record s { sent = s.sent ++ x ∷ [] }

  abbrev pub with_taken : ReceiverSeat T → Item T → ReceiverSeat T
  with_taken r x = record r { taken = r.taken ++ x ∷ [] }

  -- the seats of a new inbox: ports numbered 0, 1, 2 .., which have sent nothing, and the receiver's
  abbrev pub new_senders : Inbox T → ℕ → List (SenderSeat T)
  new_senders inbox zero = []
  new_senders inbox (suc n) = new_senders inbox n ++ record { inbox = inbox; number = n; sent = [] } ∷ []

  abbrev pub new_receiver : Inbox T → ℕ → ReceiverSeat T
  new_receiver inbox ports = record { inbox = inbox; ports = ports; taken = [] }
