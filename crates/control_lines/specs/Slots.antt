-- Where the kept answer to a token stands in the ring. No public contract cites this.
--
-- The slots of a ring are numbered: each answer takes the slot after that of the one before it, and behind the last slot comes
-- the first again. So a slot stands for one answer as long as that is kept.
use Rattle.std.specs.Prelude.{◌≡◌, ℕ, suc, ◌+◌, ◌-◌, ◌<◌, ◌≤◌, Bool, List, [], ◌∷◌, length, take, Option, Some, None, option_map, if◌then◌else◌, nat_le, nat_eq, ◌==◌}
use Rattle.std.specs.HashMap.{HashMap, get}
use Rattle.circular_buffer.specs.Buffer.{Buffer, buffer}
use Rattle.control_lines.specs.declared.kept.AnsweredLine.{AnsweredLine}

-- the slot after this one
abbrev pub after : ℕ → ℕ → ℕ
after room slot = if slot + 1 == room then 0 else slot + 1

-- the slot of the answer at this place, where the newest one, at place 0, has that slot
abbrev pub slot_at : ℕ → ℕ → ℕ → ℕ
slot_at room newest place = if nat_le place newest then newest - place else newest + room - place

abbrev pub answers : ℕ → AnsweredLine → Bool
answers t kept = nat_eq kept.token t

-- the place of the newest answer to the token
abbrev pub place_of : ℕ → List AnsweredLine → Option ℕ
place_of t [] = None
place_of t (kept ∷ older) = if answers t kept then Some 0 else option_map suc (place_of t older)

-- the slot that a map has at the token
abbrev pub slot_in : {S : Type 0} → HashMap ℕ ℕ S → ℕ → Option ℕ
slot_in slots t = get nat_eq slots t

-- with this answer before the others. The oldest goes when there is no room
abbrev pub with_newest : Buffer AnsweredLine → AnsweredLine → Buffer AnsweredLine
with_newest ring kept = buffer (take ring.capacity (kept ∷ ring.items)) ring.capacity

-- the map leads each token to the slot of the newest answer to it
pub record IsIndexed {S : Type 0} (ring : Buffer AnsweredLine) (slots : HashMap ℕ ℕ S) (newest : ℕ) : Type 0 where
  pub within : newest < ring.capacity
  pub fits : length ring.items ≤ ring.capacity
  pub found : (t : ℕ) → slot_in slots t ≡ option_map (slot_at ring.capacity newest) (place_of t ring.items)
