-- A crew with two ports that serves to its end.
--
--   a datagram of SIP  -> port 0 -+              +-> an answer or a NOTIFY, by the wire
--                                 +-> workers ->-+
--   a control line     -> port 1 -+              +-> START <tag> <refer_to>, by the writer
use Rattle.std.specs.Prelude.{ℕ, List, [], ◌∷◌, Option}
use Rattle.queues.specs.declared.items.Item.{Item}
use Rattle.transport.specs.Devices.{SinkSeen}
use Rattle.notifier_model.specs.declared.event.Out.{Out}
use Rattle.notifier_model.specs.Start.{Start}
use Rattle.queues.specs.OutboxSeats.{TakerSeat}
use Rattle.crew.specs.Ports.{PortSeats}
use Rattle.crew.specs.Started.{Hired, IsStarted}
use Rattle.crew.specs.Joined.{IsJoined}
use Rattle.crew.specs.declared.report.WorkerReport.{WorkerReport}
use Rattle.feeds.specs.declared.sending.EmitReport.{EmitReport}
use Rattle.feeds.specs.Emitted.{Fates, WireSeen, writer_seen, IsEmitted}
use Rattle.feeds.specs.declared.feeding.FeedReport.{FeedReport}
use Rattle.feeds.specs.declared.hearing.Language.TheVariants.{Sip, Control}
use Rattle.udp_command.specs.UdpHearing.{most_lines, HearsOutSocket}

-- what came of it: of the datagrams of SIP, of the control lines, of the outs, and of each worker
pub record UdpOutcome : Type 0 where
  pub feed : FeedReport
  pub control : FeedReport
  pub emitted : EmitReport
  pub workers : List WorkerReport

-- workers with these starts handled what the two ports sent until both were closed, as far as their reports say, and each of
-- their outs was sent, written or counted as failed
pub record Serves {W : Type 0} (contents : W → Option (List ℕ)) (start : ℕ → Start) (workers count : ℕ) (before after : SinkSeen W) (outcome : UdpOutcome) : Type 0 where
  -- as it was started
  pub crew : List Hired
  pub sip : PortSeats
  pub control : PortSeats
  pub taker : TakerSeat
  pub started : IsStarted start workers 2 crew (sip ∷ control ∷ []) taker
  -- what the ports sent
  pub sip_closed : PortSeats
  pub control_closed : PortSeats
  pub hears_sip : HearsOutSocket Sip count sip sip_closed outcome.feed
  pub hears_control : HearsOutSocket Control most_lines control control_closed outcome.control
  -- what the workers did with it, and which of their outs were got
  pub got : List (Item Out)
  pub joined : IsJoined crew (sip_closed ∷ control_closed ∷ []) got outcome.workers
  -- what became of these
  pub fates : Fates
  pub wire : WireSeen
  pub wire' : WireSeen
  pub emitted : IsEmitted workers fates [] got wire wire' (writer_seen contents before) (writer_seen contents after) outcome.emitted
