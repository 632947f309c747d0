-- Why a port sends nothing.
use Rattle.std.specs.Prelude.{◌≡◌, ◌<◌, true, false, length}
use Rattle.notifier_model.specs.declared.event.Event.{Event}
use Rattle.crew.specs.Ports.{PortSeats, missed_once, sends_first}
use Rattle.crew.specs.declared.errors.SendError.{SendError}
use Rattle.crew.specs.declared.errors.SendError.TheVariants as send
use Rattle.crew.specs.declared.errors.TickError.{TickError}
use Rattle.crew.specs.declared.errors.TickError.TheVariants as tick

-- The event comes back. It is closed exactly where the port is, which is as it was then. An open port has a worker: it counts that this
-- one is gone, and else is as it was
abbrev pub GivesBack : PortSeats → Event → PortSeats → SendError → Type 0
GivesBack old event new (send.Closed back) = (back ≡ event) × (new ≡ old) × (old.is_open ≡ false)
GivesBack old event new (send.Gone back) = (back ≡ event) × (new ≡ missed_once old) × (old.is_open ≡ true) × (0 < length old.seats)

-- a closed port is as it was; else the first i inboxes took it, the others did not, and the port counts that a worker is gone
abbrev pub TicksFirst : PortSeats → Event → PortSeats → TickError → Type 0
TicksFirst old event new tick.Closed = (new ≡ old) × (old.is_open ≡ false)
TicksFirst old event new (tick.Gone i) = (new ≡ missed_once (sends_first i event old)) × (old.is_open ≡ true) × (i < length old.seats)
