-- A crew that handles a script. No public contract cites this.
use Rattle.std.specs.Prelude.{◌≡◌, ℕ, ◌<◌, Bool, true, List, length, get_or}
use Rattle.scripts.specs.declared.error.ScriptError.{ScriptError}
use Rattle.scripts.specs.declared.error.ScriptError.TheVariants as error
use Rattle.notifier_model.specs.Start.{Start}
use Rattle.crew.specs.declared.end.End.TheVariants.{Closed}
use Rattle.queues.specs.OutboxSeats.{TakerSeat}
use Rattle.crew.specs.declared.errors.StartError.{StartError}
use Rattle.crew.specs.declared.errors.StartError.TheVariants as start
use Rattle.crew.specs.Ports.{PortSeats}
use Rattle.crew.specs.Started.{Hired, IsStarted}
use Rattle.crew.specs.Joined.{IsJoined}
use Rattle.crew.specs.declared.report.WorkerReport.{WorkerReport}
use Rattle.server.specs.declared.work.Work.{Work}
use Rattle.server.specs.declared.gathering.GatheredOuts.{GatheredOuts}
use Rattle.server.specs.Working.{AreNumbered}

-- a script isn't handled where its crew isn't started for this cause. A refused thread is a fault of the device
abbrev pub cause_of : StartError → ScriptError
cause_of start.NoWorkers = error.NoMemory
cause_of start.NoPorts = error.NoMemory
cause_of start.NoMemory = error.NoMemory
cause_of start.NoThread = error.Device

-- a crew with one port that was just started, and has a worker for each of these starts
pub record IsRunning (starts : List Start) (crew : List Hired) (ports : List PortSeats) (taker : TakerSeat) : Type 0 where
  pub numbered : AreNumbered starts
  pub any : Start
  pub started : IsStarted (λ w. get_or starts w any) (length starts) 1 crew ports taker

-- the worker came to its end, and its events are counted
pub record Counts (report : WorkerReport) (old new : Work) : Type 0 where
  pub closed : report.end ≡ Closed
  pub handled : new.handled ≡ report.handled
  pub number : new.number ≡ old.number
  pub outs : new.outs ≡ old.outs

-- the first n workers did
pub record AreCounted (n : ℕ) (reports : List WorkerReport) (old new : List Work) : Type 0 where
  pub len : length new ≡ length old
  pub each : (k : ℕ) (report : WorkerReport) (work : Work) → k < n
      → Counts (get_or reports k report) (get_or old k work) (get_or new k work)

-- all was sent and kept, and each worker came to its end
pub record IsFinished (crew : List Hired) (ports : List PortSeats) (gathered : GatheredOuts) (is_sent : Bool) (works : List Work) : Type 0 where
  pub sent : is_sent ≡ true
  pub whole : gathered.is_whole ≡ true
  pub reports : List WorkerReport
  pub joined : IsJoined crew ports gathered.taker.got reports
  pub counted : AreCounted (length gathered.works.items) reports gathered.works.items works
