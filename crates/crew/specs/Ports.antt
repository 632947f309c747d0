-- What contracts see of a port of a crew.
use Rattle.std.specs.Prelude.{◌≡◌, ◌⊎◌, ◌<◌, ◌+◌, ℕ, Bool, true, false, nat_lt, List, [], ◌∷◌, ◌++◌, length, map, get_or, take, drop, slice_get, slice_set, Some}
use Rattle.std.specs.List.{All}
use Rattle.notifier_model.specs.declared.event.Event.{Event}
use Rattle.queues.specs.Values.{end_item, value_item}
use Rattle.queues.specs.InboxSeats.{Inbox, SenderSeat, with_sent}

-- a port's seats in the order of the workers, whether it is open (a closed one sends nothing more), and how many of its calls to send
-- something found a worker gone
pub record PortSeats : Type 0 where
  pub is_open : Bool
  pub seats : List SenderSeat
  pub missed : ℕ

-- it opens with its first seat
abbrev pub no_seats : PortSeats
no_seats = record { is_open = false; seats = []; missed = 0 }

-- with one seat more
abbrev pub seated : PortSeats → SenderSeat → PortSeats
seated p s = record { is_open = true; seats = p.seats ++ s ∷ []; missed = p.missed }

-- a port's seat of this inbox, which has sent nothing
abbrev pub new_seat : Inbox → ℕ → SenderSeat
new_seat inbox number = record { inbox = inbox; number = number; sent = [] }

-- the port of this number, with a seat of each inbox: open, where there is one
abbrev pub port_of : List Inbox → ℕ → PortSeats
port_of inboxes number = record { is_open = nat_lt 0 (length inboxes); seats = map (λ i. new_seat i number) inboxes; missed = 0 }

-- these are n ports, each with a seat of each inbox
pub record AreDealt (ports : List PortSeats) (inboxes : List Inbox) (n : ℕ) : Type 0 where
  pub len : length ports ≡ n
  pub each : (s : ℕ) (d : PortSeats) → s < n → get_or ports s d ≡ port_of inboxes s

-- each port has taken the seat of its number
abbrev pub TakeSeats : List PortSeats → List PortSeats → List SenderSeat → ℕ → Type 0
TakeSeats old new seats n = (k : ℕ) (d : PortSeats) (s : SenderSeat) → k < n → get_or new k d ≡ seated (get_or old k d) (get_or seats k s)

-- no port was closed: each is open, or has no seat yet
abbrev pub NoneWasClosed : List PortSeats → Type 0
NoneWasClosed ports = All (λ (p : PortSeats). p.is_open ≡ false → p.seats ≡ []) ports

-- each port may take a seat more
abbrev pub HaveRoom : List PortSeats → Type 0
HaveRoom ports = All (λ (p : PortSeats). length p.seats < 256) ports

-- by none of these seats anything was sent
abbrev pub AreUnused : List SenderSeat → Type 0
AreUnused seats = All (λ (s : SenderSeat). s.sent ≡ []) seats

-- nor by any of these ports
abbrev pub NoneHasSent : List PortSeats → Type 0
NoneHasSent ports = All (λ (p : PortSeats). AreUnused p.seats) ports

-- one item more at the w-th of these seats, and nothing else
pub record SendsAt (old : List SenderSeat) (w : ℕ) (event : Event) (new : List SenderSeat) : Type 0 where
  pub seat : SenderSeat
  pub stood : slice_get old w ≡ Some seat
  pub stands : new ≡ slice_set old w (with_sent seat (value_item seat.number event))

-- the first i of these seats have sent the event
abbrev pub sent_first : ℕ → Event → List SenderSeat → List SenderSeat
sent_first i event seats = map (λ s. with_sent s (value_item s.number event)) (take i seats) ++ drop i seats

-- one item more at the w-th seat, and nothing else
pub record SendsTo (old : PortSeats) (w : ℕ) (event : Event) (new : PortSeats) : Type 0 where
  pub seat : SenderSeat
  pub stood : slice_get old.seats w ≡ Some seat
  pub stands : new ≡ record old { seats = slice_set old.seats w (with_sent seat (value_item seat.number event)) }

-- the event is added to the first i inboxes
abbrev pub sends_first : ℕ → Event → PortSeats → PortSeats
sends_first i event p = record p { seats = sent_first i event p.seats }

-- one call more found a worker gone
abbrev pub missed_once : PortSeats → PortSeats
missed_once p = record p { missed = p.missed + 1 }

-- each seat has its end mark, or is as it was
abbrev pub ClosesSome : List SenderSeat → List SenderSeat → Type 0
ClosesSome [] new = new ≡ []
ClosesSome (s ∷ old) new = (t : SenderSeat) × (rest : List SenderSeat) × (new ≡ t ∷ rest) × ((t ≡ s) ⊎ (t ≡ with_sent s (end_item s.number))) × ClosesSome old rest

-- one of the seats at least is as it was
abbrev pub OneStays : List SenderSeat → List SenderSeat → Type 0
OneStays [] new = ⊥
OneStays (s ∷ old) new = (t : SenderSeat) × (rest : List SenderSeat) × (new ≡ t ∷ rest) × ((t ≡ s) ⊎ OneStays old rest)

-- each seat has its end mark; a closed port is as it was
abbrev pub Closes : PortSeats → PortSeats → Type 0
Closes old new =
    (old.is_open ≡ true → new ≡ record old { is_open = false; seats = map (λ s. with_sent s (end_item s.number)) old.seats })
    × (old.is_open ≡ false → new ≡ old)

-- what is left of a port that was closed, however that was answered: where not each seat has its end mark, one at least is as it was
abbrev pub IsLeftByClose : PortSeats → PortSeats → Type 0
IsLeftByClose old new = Closes old new ⊎ (ClosesSome old.seats new.seats × OneStays old.seats new.seats)
