-- Where the kept answer to a transaction stands in the ring.
--
-- The slots of a ring are numbered: each answer takes the slot after that of the one before it, and behind the last slot comes
-- the first again. So a slot stands for one answer as long as that is kept.
use Rattle.std.specs.Prelude.{◌≡◌, ℕ, suc, ◌+◌, ◌-◌, ◌<◌, ◌≤◌, Bool, List, [], ◌∷◌, length, take, Option, Some, None, option_map, if◌then◌else◌, nat_le, ◌==◌}
use Rattle.std.specs.BTreeMap.{BTreeMap, get}
use Rattle.circular_buffer.specs.Buffer.{Buffer, buffer}
use Rattle.notifier_model.specs.declared.row.Kept.{Kept}
use Rattle.notifier.specs.declared.store.transaction.Transaction.{Transaction}
use Rattle.notifier.specs.contracts.store.transaction.TransactionOrd.TheImpl as order
use Rattle.notifier_model.specs.Answers.{has_key}
use Rattle.notifier.specs.Transactions.{key_of}

-- the slot after this one
abbrev pub after : ℕ → ℕ → ℕ
after room slot = if slot + 1 == room then 0 else slot + 1

-- the slot of the answer at this place, where the newest one, at place 0, has that slot
abbrev pub slot_at : ℕ → ℕ → ℕ → ℕ
slot_at room newest place = if nat_le place newest then newest - place else newest + room - place

abbrev pub answers : Transaction → Kept → Bool
answers t kept = has_key (key_of t) kept

-- the place of the newest answer to the transaction
abbrev pub place_of : Transaction → List Kept → Option ℕ
place_of t [] = None
place_of t (kept ∷ older) = if answers t kept then Some 0 else option_map suc (place_of t older)

-- the slot that a map has at the transaction
abbrev pub slot_in : BTreeMap Transaction ℕ → Transaction → Option ℕ
slot_in slots t = get (order.ghosts).cmp slots t

-- with this answer before the others. The oldest goes when there is no room
abbrev pub with_newest : Buffer Kept → Kept → Buffer Kept
with_newest ring kept = buffer (take ring.capacity (kept ∷ ring.items)) ring.capacity

-- the map leads each transaction to the slot of the newest answer to it
pub record IsIndexed (ring : Buffer Kept) (slots : BTreeMap Transaction ℕ) (newest : ℕ) : Type 0 where
  pub within : newest < ring.capacity
  pub fits : length ring.items ≤ ring.capacity
  pub found : (t : Transaction) → slot_in slots t ≡ option_map (slot_at ring.capacity newest) (place_of t ring.items)
