-- That each event a port sent to a worker has its home there, ticks and stops apart.
use Rattle.std.specs.Prelude.{◌≡◌, ◌⊎◌, ℕ, true, List, length, slice_get, Some}
use Rattle.std.specs.List.{All}
use Rattle.queues.specs.Values.{values}
use Rattle.notifier_model.specs.declared.event.Event.{Event}
use Rattle.notifier_model.specs.Home.{home, is_for_all, comes_to}
use Rattle.queues.specs.InboxSeats.{Inbox, SenderSeat}
use Rattle.crew.specs.Ports.{PortSeats, port_of, SendsTo, sends_first, Closes, ClosesSome}

-- each event that worker w of n got from these seats goes to w, or to all
abbrev pub AreAtHome : ℕ → List SenderSeat → Type 0
AreAtHome n seats = (w : ℕ) (s : SenderSeat) → slice_get seats w ≡ Some s → All (λ e. comes_to n w e ≡ true) (values s.sent)

-- each event that a port with these seats sent went to its home, or to all
abbrev pub SentHome : List SenderSeat → Type 0
SentHome seats = AreAtHome (length seats) seats

-- a new port has sent nothing
abbrev pub NewLaw : Type 0
NewLaw = (inboxes : List Inbox) (number n : ℕ) → AreAtHome n (port_of inboxes number).seats

-- an event goes to its home
abbrev pub SendLaw : Type 0
SendLaw = (old new : PortSeats) (n : ℕ) (e : Event) → AreAtHome n old.seats → SendsTo old (home e n) e new → AreAtHome n new.seats

-- a tick goes to the first workers, or to all
abbrev pub TickLaw : Type 0
TickLaw = (old : PortSeats) (n i : ℕ) (e : Event) → is_for_all e ≡ true → AreAtHome n old.seats → AreAtHome n (sends_first i e old).seats

-- an end mark is no event
abbrev pub CloseLaw : Type 0
CloseLaw = (old new : PortSeats) (n : ℕ) → AreAtHome n old.seats → Closes old new ⊎ ClosesSome old.seats new.seats → AreAtHome n new.seats
