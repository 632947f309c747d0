-- A service as its functions hand it on. No public contract cites this.
use Rattle.std.specs.Prelude.{◌≡◌, ◌<◌, ℕ, true, List, [], ◌∷◌, length, get_or}
use Rattle.notifier.specs.Standing.{Standing}
use Rattle.crew.specs.Ports.{PortSeats}
use Rattle.crew.specs.Started.{HaveBegun}
use Rattle.service.specs.declared.feeding.Task.TheVariants as task
use Rattle.service.specs.declared.running.Feeders.{Feeders}
use Rattle.service.specs.declared.running.RunningService.{RunningService}
use Rattle.service.specs.declared.running.Sources.{Sources}
use Rattle.service.specs.Running.{Beginning}

-- it was just started with these ports, and workers whose desks stand so
abbrev pub IsNew : (ℕ → Standing) → List PortSeats → RunningService → Type 0
IsNew stands ports running = HaveBegun stands running.outgoing.workers 3 running.crew ports running.outgoing.taker

-- how it begins, where its desks stand so, and this second was told last
abbrev pub begins_so : (ℕ → Standing) → RunningService → ℕ → Beginning
begins_so stands running tick = record { stands = stands; first = running.outgoing.waiting.transactions; tick = tick }

-- each port is open
abbrev pub NoneClosed : List PortSeats → Type 0
NoneClosed ports = (k : ℕ) (p : PortSeats) → k < length ports → (get_or ports k p).is_open ≡ true

-- the threads were given these ports
abbrev pub AreLent : List PortSeats → Feeders → Type 0
AreLent ports f = ports ≡ f.sip.promise.port.value ∷ f.lines.promise.port.value ∷ f.time.promise.port.value ∷ []

-- what they are to send: what comes from these sources
pub record AreErrands (sources : Sources) (f : Feeders) : Type 0 where
  pub sip : f.sip.promise.task.value ≡ task.Datagrams sources.sip
  pub lines : f.lines.promise.task.value ≡ task.Lines sources.desk
  pub time : f.time.promise.task.value ≡ task.Time sources.stopwatch
