-- What contracts see of the ends of an outbox.
use Rattle.std.specs.Prelude.{ℕ, zero, suc, List, [], ◌∷◌, ◌++◌}
use Rattle.atomic_table.specs.Seated.{TableId}
use Rattle.crossbeam_queue.specs.declared.array_queue.Slotted.{Slotted}
use Rattle.queues.specs.declared.items.Item.{Item}
use Rattle.notifier_model.specs.declared.event.Out.{Out}

-- which outbox it is, and how many items it holds at most
pub record Outbox : Type 0 where
  pub table : TableId
  pub capacity : ℕ

-- a worker's seat: its outbox, the worker's number, and what it has posted
pub record PosterSeat : Type 0 where
  pub outbox : Outbox
  pub number : ℕ
  pub posted : List (Item Out)

-- the taker's seat: its outbox, how many workers that has, and what was got
pub record TakerSeat : Type 0 where
  pub outbox : Outbox
  pub workers : ℕ
  pub got : List (Item Out)

-- the outbox that a queue is
abbrev pub outbox_of : {S D Q A : Type 0} → Slotted S D Q A → Outbox
outbox_of q = record { table = q.table.shared.table_id; capacity = q.cap }

-- the seat after one item more
abbrev pub with_posted : PosterSeat → Item Out → PosterSeat
with_posted p x = record p { posted = p.posted ++ x ∷ [] }

abbrev pub with_got : TakerSeat → Item Out → TakerSeat
with_got t x = record t { got = t.got ++ x ∷ [] }

-- the seats of a new outbox: workers numbered 0, 1, 2 .., which have posted nothing, and the taker's
abbrev pub new_posters : Outbox → ℕ → List PosterSeat
new_posters outbox zero = []
new_posters outbox (suc n) = new_posters outbox n ++ record { outbox = outbox; number = n; posted = [] } ∷ []

abbrev pub new_taker : Outbox → ℕ → TakerSeat
new_taker outbox workers = record { outbox = outbox; workers = workers; got = [] }
