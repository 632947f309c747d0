-- How a crew stands at its start.
use Rattle.std.specs.Prelude.{◌≡◌, ℕ, ◌<◌, List, [], length, map, get_or}
use Rattle.notifier_model.specs.Start.{Start}
use Rattle.notifier.specs.Standing.{Standing, first_standing}
use Rattle.queues.specs.InboxSeats.{ReceiverSeat, new_receiver}
use Rattle.queues.specs.OutboxSeats.{PosterSeat, TakerSeat, new_taker}
use Rattle.crew.specs.Ports.{PortSeats, AreDealt}
use Rattle.crew.specs.declared.launching.Began.{Began}

-- a worker as it was launched: how its desk stood, and its ends of the inbox and the outbox
pub record Hired : Type 0 where
  pub stands : Standing
  pub reads : ReceiverSeat
  pub posts : PosterSeat

abbrev pub hired : Began → Hired
hired p = record { stands = p.token.stands; reads = p.inbox.value; posts = p.outbox.value }

-- the worker of this number, of n ports, of which nothing was taken and posted; it began with a desk that stood so. Its inbox and the
-- outbox hold as many items as its limits say
pub record IsHired (stands : Standing) (n : ℕ) (taker : TakerSeat) (w : ℕ) (h : Hired) : Type 0 where
  pub begins : h.stands ≡ stands
  pub hears : h.reads ≡ new_receiver h.reads.inbox n
  pub tells : h.posts ≡ record { outbox = taker.outbox; number = w; posted = [] }
  pub inbox_holds : h.reads.inbox.capacity ≡ stands.place.limits.inbox
  pub outbox_holds : taker.outbox.capacity ≡ stands.place.limits.outbox

-- the workers began with desks that stood so, each of the n ports is open and has a seat of each worker's inbox, and all lists are
-- empty
pub record HaveBegun (stands : ℕ → Standing) (workers n : ℕ) (crew : List Hired) (ports : List PortSeats) (taker : TakerSeat) : Type 0 where
  pub takes : taker ≡ new_taker taker.outbox workers
  pub len : length crew ≡ workers
  pub each : (w : ℕ) (h : Hired) → w < workers → IsHired (stands w) n taker w (get_or crew w h)
  pub dealt : AreDealt ports (map (λ (h : Hired). h.reads.inbox) crew) n

-- they began with new desks, of these starts
abbrev pub IsStarted : (ℕ → Start) → ℕ → ℕ → List Hired → List PortSeats → TakerSeat → Type 0
IsStarted start workers n crew ports taker = HaveBegun (λ w. first_standing (start w)) workers n crew ports taker
