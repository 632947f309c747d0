-- A run as its functions hand it on. No public contract cites this.
use Rattle.std.specs.Prelude.{◌≡◌, ℕ, List}
use Rattle.notifier_model.specs.Start.{Start}
use Rattle.crew.specs.declared.errors.StartError.{StartError}
use Rattle.crew.specs.declared.errors.StartError.TheVariants as start
use Rattle.crew.specs.Ports.{PortSeats}
use Rattle.crew.specs.Started.{IsStarted}
use Rattle.transport.specs.Sockets.{loopback}
use Rattle.arguments.specs.declared.exit_status.ExitStatus.{ExitStatus}
use Rattle.arguments.specs.declared.exit_status.ExitStatus.TheVariants as status
use Rattle.udp_command.specs.declared.udp_listening.Errand.{Errand}
use Rattle.udp_command.specs.declared.udp_listening.Intake.TheVariants as intake
use Rattle.udp_command.specs.UdpHearing.{count_of}
use Rattle.udp_command.specs.declared.udp.UdpSockets.{UdpSockets}
use Rattle.udp_command.specs.declared.udp_serving.Running.{Running}
use Rattle.udp_command.specs.declared.udp_serving.UdpServed.{UdpServed}
use Rattle.udp_command.specs.UdpServing.{UdpOutcome}

-- the status where no crew is started for this cause. Only a refused thread is a fault of the device
abbrev pub status_of : StartError → ExitStatus
status_of start.NoWorkers = status.OutOfMemory
status_of start.NoPorts = status.OutOfMemory
status_of start.NoMemory = status.OutOfMemory
status_of start.NoThread = status.DeviceFault

-- the wires of a run: SIP goes out from the port where it comes in
pub record AreBound (port control_port : ℕ) (s : UdpSockets) : Type 0 where
  pub sip : s.sip.local ≡ loopback port
  pub outgoing : s.outgoing.local ≡ loopback port
  pub control : s.control.local ≡ loopback control_port

-- it was just started with these ports, and workers with these starts
abbrev pub IsNew : (ℕ → Start) → List PortSeats → Running → Type 0
IsNew start ports running = IsStarted start running.workers 2 running.crew ports running.taker

-- what the two threads are to hear
pub record AreErrands (sip control : Errand) : Type 0 where
  pub hears_sip : sip.hearing ≡ intake.Sip (count_of sip.hearing)
  pub hears_control : control.hearing ≡ intake.Control

abbrev pub outcome_of : UdpServed → UdpOutcome
outcome_of s = record { feed = s.feed; control = s.control; emitted = s.emitted; workers = s.report.workers.items }
