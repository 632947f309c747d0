-- A crew that served its two ports to its end.
use Rattle.std.proofs.Common.{◌≡◌, ℕ, List, [], ◌∷◌, Option, ap, subst}
use Rattle.queues.specs.declared.items.Item.{Item}
use Rattle.transport.specs.Devices.{SinkSeen}
use Rattle.notifier_model.specs.declared.event.Out.{Out}
use Rattle.notifier_model.specs.Start.{Start}
use Rattle.queues.specs.OutboxSeats.{TakerSeat}
use Rattle.crew.specs.Ports.{PortSeats}
use Rattle.crew.specs.Started.{Hired, IsStarted}
use Rattle.crew.specs.Joined.{IsJoined}
use Rattle.feeds.specs.Emitted.{Fates, WireSeen, writer_seen, IsEmitted}
use Rattle.feeds.specs.declared.feeding.FeedReport.{FeedReport}
use Rattle.feeds.specs.declared.hearing.Language.{Language}
use Rattle.feeds.specs.declared.hearing.Language.TheVariants.{Sip, Control}
use Rattle.udp_command.specs.declared.udp_listening.Errand.{Errand}
use Rattle.udp_command.specs.declared.udp_listening.Intake.{Intake}
use Rattle.udp_command.specs.UdpHearing.{most_lines, language_of, count_of, HearsOutSocket}
use Rattle.udp_command.specs.UdpServing.{UdpOutcome, Serves}
use Rattle.udp_command.specs.UdpRunning.{AreErrands}
use Rattle.udp_command.proofs.UdpStarted.{taker_new, taker_workers}

-- what each thread heard, once its errand is known
pub heard_sip : {sip control : Errand} (are : AreErrands sip control) (old new : PortSeats) (report : FeedReport)
    → HearsOutSocket (language_of sip.hearing) (count_of sip.hearing) old new report → HearsOutSocket Sip (count_of sip.hearing) old new report
heard_sip {sip = sip} are old new report hears =
    let P : Language → Type 0 = λ l. HearsOutSocket l (count_of sip.hearing) old new report in subst P (ap language_of are.hears_sip) hears

pub heard_control : {sip control : Errand} (are : AreErrands sip control) (old new : PortSeats) (report : FeedReport)
    → HearsOutSocket (language_of control.hearing) (count_of control.hearing) old new report → HearsOutSocket Control most_lines old new report
heard_control are old new report hears =
    let P : Intake → Type 0 = λ i. HearsOutSocket (language_of i) (count_of i) old new report in subst P are.hears_control hears

pub serves_are : {W : Type 0} (contents : W → Option (List ℕ)) {start : ℕ → Start} {workers : ℕ} {crew : List Hired} {sip control : PortSeats} {taker : TakerSeat}
    (is : IsStarted start workers 2 crew (sip ∷ control ∷ []) taker)
    (count : ℕ) (before after : SinkSeen W) (o : UdpOutcome) (sip' control' : PortSeats) (ports : List PortSeats) (got : List (Item Out)) (fates : Fates) (wire wire' : WireSeen)
    → HearsOutSocket Sip count sip sip' o.feed → HearsOutSocket Control most_lines control control' o.control
    → ports ≡ sip' ∷ control' ∷ [] → IsJoined crew ports got o.workers
    → IsEmitted taker.workers fates taker.got got wire wire' (writer_seen contents before) (writer_seen contents after) o.emitted
    → Serves contents start workers count before after o
serves_are contents {start = start} {crew = crew} {sip = sip} {control = control} {taker = taker} is count before after o sip' control' ports got fates wire wire' hears_sip hears_control are joined emitted =
    let P : List PortSeats → Type 0 = λ l. IsJoined crew l got o.workers in
    let Q : List (Item Out) → Type 0 = λ l. IsEmitted taker.workers fates l got wire wire' (writer_seen contents before) (writer_seen contents after) o.emitted in
    let N : ℕ → Type 0 = λ n. IsEmitted n fates [] got wire wire' (writer_seen contents before) (writer_seen contents after) o.emitted in record {
      crew = crew;
      sip = sip;
      control = control;
      taker = taker;
      started = is;
      sip_closed = sip';
      control_closed = control';
      hears_sip = hears_sip;
      hears_control = hears_control;
      got = got;
      joined = subst P are joined;
      fates = fates;
      wire = wire;
      wire' = wire';
      emitted = subst N (taker_workers start is) (subst Q (taker_new start is) emitted);
    }
