-- How the program ends.
--
--   status   line on standard error     cause
--   0        none                       done
--   1        notifyd: bad arguments     the arguments don't ask for workers that run a script
--   2        notifyd: bad script        the bytes are no script, or too many
--   3        notifyd: device fault      a read or a write failed, or a thread could not be started
--   4        notifyd: out of memory     an allocation failed
use Rattle.std.specs.Prelude.{ℕ, List, codes, Option, Some, None}
use Rattle.arguments.specs.declared.exit_status.ExitStatus.{ExitStatus}
use Rattle.arguments.specs.declared.exit_status.ExitStatus.TheVariants as status

abbrev pub code_of : ExitStatus → ℕ
code_of status.Done = 0
code_of status.BadArguments = 1
code_of status.BadScript = 2
code_of status.DeviceFault = 3
code_of status.OutOfMemory = 4

abbrev pub line_of : ExitStatus → Option (List ℕ)
line_of status.Done = None
line_of status.BadArguments = Some (codes "notifyd: bad arguments")
line_of status.BadScript = Some (codes "notifyd: bad script")
line_of status.DeviceFault = Some (codes "notifyd: device fault")
line_of status.OutOfMemory = Some (codes "notifyd: out of memory")
