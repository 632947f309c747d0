-- What a port keeps.
use Rattle.std.specs.Prelude.{◌≡◌, ◌<◌, ℕ, false, List, length, map, get_or}
use Rattle.queues.specs.InboxSeats.{SenderSeat}
use Rattle.crew.specs.Ports.{PortSeats, new_seat}

-- the seat before it sent anything
abbrev pub emptied : SenderSeat → SenderSeat
emptied s = new_seat s.inbox s.number

-- the same seats, whatever they sent
abbrev pub SameSeats : PortSeats → PortSeats → Type 0
SameSeats old new = map emptied new.seats ≡ map emptied old.seats

-- each port is closed, and has the seats that it had
pub record AllClosed (old new : List PortSeats) : Type 0 where
  pub len : length new ≡ length old
  pub closed : (k : ℕ) (p : PortSeats) → k < length old → (get_or new k p).is_open ≡ false
  pub seats : (k : ℕ) (p : PortSeats) → k < length old → SameSeats (get_or old k p) (get_or new k p)
