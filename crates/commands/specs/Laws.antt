-- What a run of a program tells the watchers of its subscriptions: the laws of a crew, carried to the words that ask for the run.
use Rattle.std.specs.Prelude.{ℕ, ◌≡◌, ◌<◌, ◌^◌, List, slice_get, Option, Some, None}
use Rattle.transport.specs.Devices.{SinkSeen}
use Rattle.sip_text.specs.declared.address.Addr.{Addr}
use Rattle.notifier_model.specs.declared.event.Out.{Out}
use Rattle.notifier_model.specs.Start.{Start}
use Rattle.life.specs.Laws.{AreNotifies, notifies_with}
use Rattle.schedules.specs.Laws.{AreStarts, Rise}
use Rattle.crew.specs.Started.{Hired}
use Rattle.crew.specs.declared.report.WorkerReport.{WorkerReport}
use Rattle.crew.specs.Laws.{its_notices, its_tag}
use Rattle.feeds.specs.Laws.{outs_of}
use Rattle.service.specs.Sending.{fates}
use Rattle.service.specs.declared.running.ServiceEnd.{ServiceEnd}
use Rattle.arguments.specs.declared.exit_status.ExitStatus.{ExitStatus}
use Rattle.arguments.specs.declared.udp_arguments.UdpArguments.{UdpArguments}
use Rattle.arguments.specs.UdpArguments.{AreUdpArguments}
use Rattle.plans.specs.declared.plan.Plan.{Plan}
use Rattle.plans.specs.Plans.{IsPlan}
use Rattle.commands.specs.Serving.{Serves, start_at}
use Rattle.udp_command.specs.UdpCall as udp
use Rattle.udp_command.specs.UdpEnds.{Runs}

-- ---- with which starts

-- The workers that the words behind `serve` ask for: at most 2^32, each with its own number, with limits in their ranges, and with no
-- transfer yet
abbrev pub StartsOfAPlanLaw : Type 0
StartsOfAPlanLaw = (words : List (List ℕ)) (plan : Plan) (local : Addr) (ports : ℕ) →
    IsPlan words plan → AreStarts (record { ports = ports; workers = plan.workers; start = start_at plan local })

-- the same of those that the words of `udp` ask for
abbrev pub StartsOfACallLaw : Type 0
StartsOfACallLaw = (words : List (List ℕ)) (call : UdpArguments) (ports : ℕ) →
    AreUdpArguments words call → AreStarts (record { ports = ports; workers = call.workers; start = udp.start_at call })

-- ---- what is told

-- Of each subscription, by its worker and its serial: the NOTIFYs with its local tag among these outs are those of its life over the events
-- that the worker handled, one for one and in order. They are numbered 1, 2, 3 and so on, and none follows a terminated one (RFC 6665
-- section 4.2.2)
abbrev pub TellLives : (ℕ → Start) → List Hired → List WorkerReport → List Out → Type 0
TellLives start crew reports outs = (w serial : ℕ) (h : Hired) (r : WorkerReport) →
    slice_get crew w ≡ Some h → slice_get reports w ≡ Some r → serial < 2 ^ 64 →
    AreNotifies (its_tag h serial) (its_notices (start w) h r serial) (notifies_with (its_tag h serial) outs)
    × Rise (notifies_with (its_tag h serial) outs)

module _ {W : Type 0} (contents : W → Option (List ℕ)) where
  -- Each run of `serve` without a journal tells lives by all outs that met a fate: that were sent, written or held back, or at which this failed
  abbrev pub ServeLaw : Type 0
  ServeLaw = (words : List (List ℕ)) (before after : SinkSeen W) (outcome : ServiceEnd) (run : Serves contents words before after outcome) →
      run.plan.journal ≡ None →
      let ran = run.as_planned.ran.runs in
      TellLives (start_at run.plan run.as_planned.local) ran.crew outcome.report.workers.items (outs_of (fates ran.acts))

  -- so does each run of `udp`
  abbrev pub UdpLaw : Type 0
  UdpLaw = (words : List (List ℕ)) (call : UdpArguments) (before after : SinkSeen W) (status : ExitStatus) (run : Runs contents call before after status) →
      AreUdpArguments words call →
      TellLives (udp.start_at call) run.serves.crew run.outcome.workers (outs_of run.serves.fates)
