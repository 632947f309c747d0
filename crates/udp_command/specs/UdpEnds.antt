-- How a run on the network ends.
--
--   status   line on standard error     cause
--   0        none                       done
--   1        notifyd: bad arguments     the arguments ask for no such run
--   3        notifyd: device fault      a port could not be bound, a thread could not be started, a wire failed, or a line was not written
--   4        notifyd: out of memory     an allocation failed, or a worker didn't come to the end of what was sent; where it isn't 3
use Rattle.std.specs.Prelude.{◌≡◌, ◌⊎◌, ℕ, ◌==◌, ◌||◌, not, Bool, true, false, List, Option}
use Rattle.std.specs.List.{list_all}
use Rattle.std.specs.Io.KnownBytes.{Appends}
use Rattle.arguments.specs.declared.udp_arguments.UdpArguments.{UdpArguments}
use Rattle.transport.specs.Devices.{SinkSeen, one_more, AppendsFront}
use Rattle.crew.specs.declared.end.End.{End}
use Rattle.crew.specs.declared.end.End.TheVariants.{Closed, NoMemory, Abandoned}
use Rattle.crew.specs.declared.report.WorkerReport.{WorkerReport}
use Rattle.feeds.specs.Fed.{is_fault}
use Rattle.arguments.specs.declared.exit_status.ExitStatus.{ExitStatus}
use Rattle.arguments.specs.declared.exit_status.ExitStatus.TheVariants as status
use Rattle.udp_command.specs.UdpCall.{start_at}
use Rattle.udp_command.specs.UdpLines.{worker_lines}
use Rattle.udp_command.specs.UdpServing.{UdpOutcome, Serves}

-- did a wire fail, or a line of a transfer?
abbrev pub has_fault : UdpOutcome → Bool
has_fault o = is_fault o.feed.end || is_fault o.control.end || not (o.emitted.failed == 0)

abbrev pub is_closed : End → Bool
is_closed Closed = true
is_closed (NoMemory k) = false
is_closed (Abandoned full) = false

-- did each worker come to the end of what was sent?
abbrev pub all_closed : List WorkerReport → Bool
all_closed reports = list_all (λ (r : WorkerReport). is_closed r.end) reports

module _ {W : Type 0} (contents : W → Option (List ℕ)) where
  -- all lines of the workers were written
  pub record Tells (workers : List WorkerReport) (before after : SinkSeen W) : Type 0 where
    pub written : Appends (contents before.writer) (contents after.writer) (worker_lines workers)
    pub flushed : after.is_flushed ≡ true
    pub no_failure : after.failures ≡ before.failures

  -- a front of them was written, and then the writer failed
  pub record TellsFront (workers : List WorkerReport) (before after : SinkSeen W) : Type 0 where
    pub front : AppendsFront (contents before.writer) (contents after.writer) (worker_lines workers)
    pub failure : after.failures ≡ one_more before.failures

  -- the status of what came out, where the lines were written, or a front of them, or none where memory ran out
  abbrev pub EndsAs : UdpOutcome → SinkSeen W → SinkSeen W → ExitStatus → Type 0
  EndsAs o before after status.Done = (has_fault o ≡ false) × (all_closed o.workers ≡ true) × Tells o.workers before after
  EndsAs o before after status.BadArguments = ⊥
  EndsAs o before after status.BadScript = ⊥
  EndsAs o before after status.DeviceFault =
      ((has_fault o ≡ true) × (Tells o.workers before after ⊎ (after ≡ before))) ⊎ TellsFront o.workers before after
  EndsAs o before after status.OutOfMemory =
      (has_fault o ≡ false) × (((all_closed o.workers ≡ false) × Tells o.workers before after) ⊎ (after ≡ before))

  -- the call was served to its end, and then the lines of the workers were written, as far as the status says
  pub record Runs (call : UdpArguments) (before after : SinkSeen W) (status : ExitStatus) : Type 0 where
    pub outcome : UdpOutcome
    pub between : SinkSeen W
    pub serves : Serves contents (start_at call) call.workers call.count before between outcome
    pub ends : EndsAs outcome between after status
