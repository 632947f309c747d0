-- The numbers of refusals.
use Rattle.std.specs.Prelude.{ℕ}
use Rattle.crew.specs.declared.errors.StartError.{StartError}
use Rattle.crew.specs.declared.errors.StartError.TheVariants.{NoWorkers, NoPorts, NoMemory, NoThread}
use Rattle.crew.specs.declared.errors.SendError.{SendError}
use Rattle.crew.specs.declared.errors.SendError.TheVariants as send
use Rattle.crew.specs.declared.errors.TickError.{TickError}
use Rattle.crew.specs.declared.errors.TickError.TheVariants as tick

abbrev pub of_start : StartError → ℕ
of_start NoWorkers = 1
of_start NoPorts = 2
of_start NoMemory = 3
of_start NoThread = 4

abbrev pub of_send : SendError → ℕ
of_send (send.Closed event) = 1
of_send (send.Gone event) = 2

abbrev pub of_tick : TickError → ℕ
of_tick tick.Closed = 1
of_tick (tick.Gone count) = 2
