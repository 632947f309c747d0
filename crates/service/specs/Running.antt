-- A service that runs to its end, by the three ports of a crew.
--
--   a SIP datagram -> port 0 -+              +-> an answer or a NOTIFY, by the wire
--   a control line -> port 1 -+-> workers ->-+
--   a tick         -> port 2 -+              +-> START <tag> <refer_to>, by the writer
--
-- Where the writer fails at a START line its transfer fails too, by port 2.
--
-- Answers to NOTIFYs go as notes to the thread that sends, too, which sends a NOTIFY again until its answer was noted.
--
-- It begins anew, or goes on where a former one stopped: its desks stand as they were left, NOTIFYs that wait for their answers are sent
-- again as if they had gone out at its start, and the time goes on. For how long none ran is not counted.
use Rattle.std.specs.Prelude.{◌≡◌, ◌||◌, ◌<◌, max, ℕ, Bool, List, [], ◌∷◌, false}
use Rattle.admission.specs.declared.judging.Admission.{Admission}
use Rattle.admission.specs.declared.network.Network.{Network}
use Rattle.package.specs.declared.change.Change.{Change}
use Rattle.queues.specs.declared.items.Item.{Item}
use Rattle.notifier_model.specs.declared.event.Event.{Event}
use Rattle.notifier_model.specs.declared.event.Out.{Out}
use Rattle.notifier_model.specs.Start.{Start}
use Rattle.notifier.specs.Standing.{Standing, first_standing}
use Rattle.queues.specs.OutboxSeats.{TakerSeat}
use Rattle.crew.specs.Ports.{PortSeats, IsLeftByClose}
use Rattle.crew.specs.Kept.{SameSeats}
use Rattle.crew.specs.Started.{Hired, HaveBegun}
use Rattle.crew.specs.Joined.{IsJoined}
use Rattle.crew.specs.declared.report.WorkerReport.{WorkerReport}
use Rattle.feeds.specs.declared.sending.EmitReport.{EmitReport}
use Rattle.feeds.specs.declared.feeding.FeedEnd.{FeedEnd}
use Rattle.feeds.specs.Fed.{is_fault, failures_at}
use Rattle.transport.specs.Ears.{Misses}
use Rattle.transport.specs.Sockets.{misses}
use Rattle.transport.specs.declared.udp.UdpWire.{UdpWire}
use Rattle.transactions.specs.declared.allowance.Allowance.{Allowance}
use Rattle.transactions.specs.Machine.{State, empty}
use Rattle.service.specs.declared.begins.Begins.{Begins}
use Rattle.service.specs.declared.clock.Stopwatch.{Stopwatch}
use Rattle.service.specs.declared.feeding.Fed.{Fed}
use Rattle.service.specs.declared.feeding.Task.{Task}
use Rattle.service.specs.declared.feeding.Task.TheVariants as task
use Rattle.circular_buffer.specs.Buffer.{buffer}
use Rattle.service.specs.declared.datagrams.SipDesk.{SipDesk}
use Rattle.service.specs.declared.lines.ControlDesk.{ControlDesk}
use Rattle.service.specs.declared.lines.ControlPort.{ControlPort}
use Rattle.service.specs.declared.lines.TheConstants.{KEPT}
use Rattle.service.specs.declared.running.ServiceEnd.{ServiceEnd}
use Rattle.service.specs.Sending.{Act, Outflow, IsSentOut, open_first}
use Rattle.service.specs.Admitted.{Case, AreHeard}
use Rattle.service.specs.Listening.{IsDeafAsTold}
use Rattle.service.specs.Taken.{DeskSeen, Line, WereTold, AreTaken, seen}
use Rattle.service.specs.Ticks.{AreNotices, ArePassedOn}

-- ---- what a thread sends through its port until it ends

-- what those say that this admission allows
abbrev pub SendsDatagrams : Admission → FeedEnd → PortSeats → PortSeats → Type 0
SendsDatagrams a end old new = (cases : List Case) × (b : Admission) × AreHeard a cases b old new end

-- what a service begins to take lines with: the names of its mailboxes, what was told of them before, how many there are at most where
-- MAIL lines make some, and the networks whose lines are heard
pub record Opening : Type 0 where
  pub mailboxes : List (List ℕ)
  pub changes : List Change
  pub most : ℕ
  pub networks : List Network

abbrev pub opening : {W : Type 0} → ControlPort W → Opening
opening p = record { mailboxes = p.mailboxes.items; changes = p.changes.items; most = p.most; networks = p.networks.items }

-- a desk that takes lines so, with so many workers, and took none yet
pub record IsFresh (o : Opening) (workers : ℕ) (desk : DeskSeen) : Type 0 where
  pub first : WereTold o.mailboxes o.changes desk.rows
  pub unkept : desk.kept ≡ record { lines = buffer [] KEPT; lost = 0 }
  pub workers_are : desk.workers ≡ max 1 workers
  pub most_is : desk.most ≡ o.most
  pub networks_are : desk.hearing.networks ≡ o.networks

abbrev pub SendsLinesOf : DeskSeen → FeedEnd → PortSeats → PortSeats → Type 0
SendsLinesOf desk end old new = (log : List Line) × AreTaken desk log old new end

abbrev pub SendsLines : Opening → ℕ → FeedEnd → PortSeats → PortSeats → Type 0
SendsLines o workers end old new = (desk : DeskSeen) × IsFresh o workers desk × SendsLinesOf desk end old new

-- ticks, each later than this second, and that transfers fail whose START lines were not written
abbrev pub SendsTicks : ℕ → FeedEnd → PortSeats → PortSeats → Type 0
SendsTicks tick end old new = (events : List Event) × AreNotices tick events × ArePassedOn events old new end

abbrev pub SendsFor : Task → FeedEnd → PortSeats → PortSeats → Type 0
SendsFor (task.Datagrams desk) end old new = SendsDatagrams desk.admission end old new
SendsFor (task.Lines desk) end old new = SendsLinesOf (seen desk) end old new
SendsFor (task.Time stopwatch) end old new = SendsTicks stopwatch.tick end old new

-- a port was sent through and then closed: each worker has its end mark then, or only some have it, and one at least has not,
-- where a worker is gone
pub record ThenCloses (sends : PortSeats → PortSeats → Type 0) (old new : PortSeats) : Type 0 where
  pub fed_to : PortSeats
  pub fed : sends old fed_to
  pub shut : new.is_open ≡ false
  pub ends : IsLeftByClose fed_to new
  pub seats : SameSeats old new

-- What a thread leaves that ended so. Its wire is deaf exactly where it was deaf before, or where the thread tells of a fault: as its end, or
-- `late`, behind its end. Its clock failed once more exactly where the end says so.
abbrev pub IsLeftBehind : Task → FeedEnd → Bool → Task → Type 0
IsLeftBehind (task.Datagrams desk) end late left =
    (d : SipDesk UdpWire) × (left ≡ task.Datagrams d) × IsDeafAsTold (is_fault end || late) (misses desk.coming) (misses d.coming)
IsLeftBehind (task.Lines desk) end late left =
    (d : ControlDesk UdpWire) × (left ≡ task.Lines d) × IsDeafAsTold (is_fault end || late) (misses desk.coming) (misses d.coming)
IsLeftBehind (task.Time stopwatch) end late left =
    (s : Stopwatch) × (left ≡ task.Time s) × (s.failures ≡ failures_at end stopwatch.failures)

-- a thread has sent this through its port and closed it
pub record Keeps (task : Task) (old : PortSeats) (fed : Fed) : Type 0 where
  pub sends : ThenCloses (SendsFor task fed.end) old fed.port
  pub fails : IsLeftBehind task fed.end fed.fails_late fed.left

-- ---- how it ended

-- is it told that a wire by which something comes in was deaf, or that the clock failed?
abbrev pub is_faulty : ServiceEnd → Bool
is_faulty o = is_fault o.sip || o.sip_fails_late || is_fault o.lines || o.lines_fail_late || is_fault o.time

-- faults are told truly. Of the wires by which SIP came in and lines did, with what was so of their receives before: each is deaf now
-- exactly where it was then or a fault of it is told, as its end or late. Of the clock: a read failed exactly where its end tells it
pub record AreFaults (phones operators : Misses) (o : ServiceEnd) : Type 0 where
  pub sip : IsDeafAsTold (is_fault o.sip || o.sip_fails_late) phones (misses o.sip_desk.coming)
  pub lines : IsDeafAsTold (is_fault o.lines || o.lines_fail_late) operators (misses o.desk.coming)
  pub time : o.stopwatch.failures ≡ failures_at o.time 0

-- ---- how it begins

-- how each worker's desk stands, the transactions of NOTIFYs that are open, and the second that was told last
pub record Beginning : Type 0 where
  pub stands : ℕ → Standing
  pub first : State
  pub tick : ℕ

-- where its desks stand so, and so many NOTIFYs may wait for their answers at once
abbrev pub beginning : (ℕ → Standing) → Allowance → Begins → Beginning
beginning stands allowance begins = record { stands = stands; first = open_first allowance begins.unanswered.items; tick = begins.tick }

-- anew: with new desks of these starts, no NOTIFY waits, and no second was told
abbrev pub anew : (ℕ → Start) → Allowance → Beginning
anew start allowance = record { stands = λ w. first_standing (start w); first = empty allowance; tick = 0 }

-- ---- all of it

-- A service ran so. Its workers began with desks that stood so, and handled, as their reports tell, what its three ports sent until all were
-- closed. Through the first came what those SIP datagrams say that this admission allows. Each out of the workers was sent, written or failed,
-- in order. NOTIFYs were sent again as their transactions ask for it, also those that were open at the start.
pub record Runs (begins : Beginning) (workers : ℕ) (opened : Opening) (admission : Admission) (flow : Outflow) (outcome : ServiceEnd) : Type 0 where
  -- as it was started
  pub crew : List Hired
  pub sip : PortSeats
  pub lines : PortSeats
  pub time : PortSeats
  pub taker : TakerSeat
  pub started : HaveBegun begins.stands workers 3 crew (sip ∷ lines ∷ time ∷ []) taker
  -- what the ports sent
  pub sip_closed : PortSeats
  pub lines_closed : PortSeats
  pub time_closed : PortSeats
  pub sends_datagrams : ThenCloses (SendsDatagrams admission outcome.sip) sip sip_closed
  pub sends_lines : ThenCloses (SendsLines opened workers outcome.lines) lines lines_closed
  pub sends_ticks : ThenCloses (SendsTicks begins.tick outcome.time) time time_closed
  -- what the workers did with it, and which of their outs were got
  pub got : List (Item Out)
  pub joined : IsJoined crew (sip_closed ∷ lines_closed ∷ time_closed ∷ []) got outcome.report.workers.items
  -- what became of these
  pub acts : List Act
  pub counts : EmitReport
  pub sent : IsSentOut begins.first workers acts [] got flow counts

-- A service whose desks are new and which takes over nothing is one of the starts of these desks
abbrev pub BeginsAnewLaw : Type 0
BeginsAnewLaw = (begins : Beginning) (start : ℕ → Start) (workers : ℕ) (allowance : Allowance) (opened : Opening) (admission : Admission) (flow : Outflow) (outcome : ServiceEnd)
    → ((w : ℕ) → w < workers → begins.stands w ≡ first_standing (start w)) → begins.first ≡ empty allowance → begins.tick ≡ 0
    → Runs begins workers opened admission flow outcome → Runs (anew start allowance) workers opened admission flow outcome

-- ---- a service that doesn't run

-- what left by a wire and a writer were outs of workers whose desks stood so: of each all that the one-thread notifier makes there of the
-- events that it handled, and no others. Of what the ports sent this says nothing. Each out was sent, written or failed, in order, and
-- NOTIFYs again as in a service that runs
pub record Leaves (begins : Beginning) (workers : ℕ) (flow : Outflow) : Type 0 where
  pub crew : List Hired
  pub ports : List PortSeats
  pub taker : TakerSeat
  pub started : HaveBegun begins.stands workers 3 crew ports taker
  -- what the workers did, and which of their outs were got
  pub got : List (Item Out)
  pub reports : List WorkerReport
  pub joined : IsJoined crew [] got reports
  -- what became of these
  pub acts : List Act
  pub counts : EmitReport
  pub sent : IsSentOut begins.first workers acts [] got flow counts
