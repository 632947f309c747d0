-- Why a service doesn't run.
use Rattle.crew.specs.declared.errors.GoOnError.{GoOnError}
use Rattle.crew.specs.declared.errors.GoOnError.TheVariants as go_on
use Rattle.crew.specs.declared.errors.StartError.{StartError}
use Rattle.crew.specs.declared.errors.StartError.TheVariants as start
use Rattle.service.specs.declared.error.RunError.{RunError}
use Rattle.service.specs.declared.error.RunError.TheVariants as error

-- its crew wasn't started for this cause. Without a worker or a port no thread is even asked for
abbrev pub of_start : StartError → RunError
of_start start.NoWorkers = error.NoThread
of_start start.NoPorts = error.NoThread
of_start start.NoMemory = error.NoMemory
of_start start.NoThread = error.NoThread

-- it goes on with no such crew: a desk is none that a worker can begin with, or it wasn't started
abbrev pub of_go_on : GoOnError → RunError
of_go_on (go_on.BadDesk worker) = error.BadDesk worker
of_go_on (go_on.Start cause) = of_start cause
