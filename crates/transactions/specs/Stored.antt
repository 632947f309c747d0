-- The open transactions as they are stored, and the list that they stand for.
use Rattle.std.specs.Prelude.{◌≡◌, ℕ, zero, suc, ◌+◌, ◌*◌, ◌<◌, ◌≤◌, ◌^◌, Bool, true, false, ◌==◌, ◌&&◌, nat_le, Option, Some, None, option_to_list, List, [], ◌∷◌, ◌++◌, length, if◌then◌else◌}
use Rattle.slab.specs.Slab as slab
use Rattle.slab.specs.Slab.{Slab, slab_len}
use Rattle.transactions.specs.declared.allowance.Allowance.{Allowance}
use Rattle.transactions.specs.declared.open.Open.{Open}
use Rattle.transactions.specs.declared.alarms.Alarm.{Alarm}
use Rattle.transactions.specs.declared.book.Book.{Book}
use Rattle.transactions.specs.declared.alarms.TheConstants.{NEVER}
use Rattle.transactions.specs.Timers.{has_name, alarm}
use Rattle.transactions.specs.Machine.{State}
use Rattle.transactions.specs.Tournament.{IsTournament, leaf}
use Rattle.transactions.specs.Places.{name_head, tag_head}
use Rattle.transactions.specs.Rings.{nodes, Seat, IsRinged}

abbrev pub at : Book → ℕ → Option Open
at b place = slab.get b.slab place

abbrev pub slot_alarm : Option Open → Alarm
slot_alarm None = NEVER
slot_alarm (Some t) = record { moment = alarm t; serial = t.serial }

abbrev pub name_ring : ℕ → Open → ℕ
name_ring size t = name_head size t.tag t.number

abbrev pub tag_ring : ℕ → Open → ℕ
tag_ring size t = tag_head size t.tag

-- the seat of a node that is a head, or the place of a transaction: those that were kept later have the greater ranks
abbrev pub seated : ℕ → (Open → ℕ) → ℕ → Option Open → Option Seat
seated size ring node (Some t) = Some (record { ring = ring t; rank = t.serial + 1 })
seated size ring node None = if nat_le size node && nat_le node (size + size) then Some (record { ring = node; rank = 0 }) else None

abbrev pub name_seat : Book → ℕ → Option Seat
name_seat b node = seated b.size (name_ring b.size) node (at b node)

abbrev pub tag_seat : Book → ℕ → Option Seat
tag_seat b node = seated b.size (tag_ring b.size) node (at b node)

-- each transaction lies in the ring of its name and in that of its tag, and its alarm stands in the tournament
pub record IsBook (b : Book) : Type 0 where
  pub tournament : IsTournament b.size b.alarms.items
  pub size : b.slab.capacity ≤ b.size
  pub fits : b.size + b.size + 1 < 2 ^ 64
  pub alarmed : (p : ℕ) → p < b.size → leaf b.size b.alarms.items p ≡ slot_alarm (at b p)
  pub within : (p : ℕ) (t : Open) → at b p ≡ Some t → p < b.size
  pub early : (p : ℕ) (t : Open) → at b p ≡ Some t → t.first < 2 ^ 63
  pub names : IsRinged (name_seat b) b.names
  pub tags : IsRinged (tag_seat b) b.tags
  pub many_names : nodes b.names ≡ b.size + b.size + 1
  pub many_tags : nodes b.tags ≡ b.size + b.size + 1

-- the one with this serial
abbrev pub with_serial : List (Option Open) → ℕ → Option Open
with_serial [] serial = None
with_serial (None ∷ slots) serial = with_serial slots serial
with_serial (Some t ∷ slots) serial = if t.serial == serial then Some t else with_serial slots serial

-- those with the serials below this one, in their order
abbrev pub opened : (ℕ → Option Open) → ℕ → List Open
opened one zero = []
opened one (suc serial) = opened one serial ++ option_to_list (one serial)

abbrev pub live_list : Book → List Open
live_list b = opened (with_serial b.slab.slots) b.kept

-- its moments fit, and it was sent no oftener than timer E lets it
pub record IsTimely (t : Open) : Type 0 where
  pub apart : t.first + 500 * t.sends ≤ t.next
  pub longest : t.interval ≤ 4000
  pub shortest : 500 ≤ t.interval

-- no two have one serial or one name, and none is missed in the list
pub record IsSound (b : Book) : Type 0 where
  pub book : IsBook b
  pub below : (p : ℕ) (t : Open) → at b p ≡ Some t → t.serial < b.kept
  pub timely : (p : ℕ) (t : Open) → at b p ≡ Some t → IsTimely t
  pub one_serial : (p q : ℕ) (t u : Open) → at b p ≡ Some t → at b q ≡ Some u → t.serial ≡ u.serial → p ≡ q
  pub one_name : (p q : ℕ) (t u : Open) → at b p ≡ Some t → at b q ≡ Some u → has_name t.tag t.number u ≡ true → p ≡ q
  pub counted : slab_len b.slab ≡ length (live_list b)

-- whether a transaction lies there that passes the test
abbrev pub passes : (Open → Bool) → Option Open → Bool
passes test None = false
passes test (Some t) = test t

-- what it stands for
abbrev pub book_state : Allowance → Book → State
book_state allowance b = record { allowance = allowance; kept = b.kept; live = live_list b }
