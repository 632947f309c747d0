-- What a port sends of the datagrams that were heard.
use Rattle.std.specs.Prelude.{◌≡◌, ◌⊎◌, ◌<◌, ◌≤◌, ℕ, Bool, true, false, List, [], ◌∷◌, ◌++◌, length, map, slice_get, Option, Some, None}
use Rattle.std.specs.List.{filter, filter_map, list_any, AllByRecursion}
use Rattle.queues.specs.Values.{values_by}
use Rattle.notifier_model.specs.declared.event.Event.{Event}
use Rattle.notifier_model.specs.Home.{is_for_all, events_for}
use Rattle.queues.specs.InboxSeats.{SenderSeat}
use Rattle.crew.specs.Ports.{PortSeats, missed_once, sends_first}
use Rattle.transport.specs.Devices.{one_more}
use Rattle.transport.specs.declared.datagram.Datagram.{Datagram}
use Rattle.feeds.specs.declared.hearing.Heard.{Heard}
use Rattle.feeds.specs.declared.hearing.Heard.TheVariants as heard
use Rattle.feeds.specs.declared.hearing.Language.{Language}
use Rattle.feeds.specs.declared.feeding.FeedEnd.{FeedEnd}
use Rattle.feeds.specs.declared.feeding.FeedEnd.TheVariants.{Done, Fault, Gone}
use Rattle.feeds.specs.declared.feeding.FeedReport.{FeedReport}
use Rattle.feeds.specs.declared.feeding.Told.{Told}
use Rattle.feeds.specs.declared.feeding.Told.TheVariants as told
use Rattle.feeds.specs.Heard.{Says}

-- ---- what is sent

-- a seat that has sent these events more
abbrev pub with_events : SenderSeat → List Event → SenderSeat
with_events s es = record s { sent = s.sent ++ values_by s.number es }

-- each worker's seat has sent those of these events that come to the worker, in order, and nothing else. No call found a worker gone
pub record Sends (old : PortSeats) (es : List Event) (new : PortSeats) : Type 0 where
  pub still_open : new.is_open ≡ old.is_open
  pub missed : new.missed ≡ old.missed
  pub len : length new.seats ≡ length old.seats
  pub each : (w : ℕ) (s : SenderSeat) → slice_get old.seats w ≡ Some s
      → slice_get new.seats w ≡ Some (with_events s (events_for (length old.seats) w es))

-- One call of the port found a worker of the event gone, as the port counts. Of all workers only the first ones were reached, and none where
-- the event has one home
pub record Misses (old : PortSeats) (e : Event) (new : PortSeats) : Type 0 where
  pub reached : ℕ
  pub few : 0 < length old.seats → reached < length old.seats
  pub single : is_for_all e ≡ false → reached ≡ 0
  pub stands : new ≡ missed_once (sends_first reached e old)

-- ---- what was heard

-- the datagrams, and what each says
abbrev pub Log : Type 0
Log = List (Datagram × Heard)

abbrev pub datagrams : Log → List Datagram
datagrams log = map (λ (x : Datagram × Heard). x.0) log

abbrev pub event_heard : Heard → Option Event
event_heard (heard.Event e) = Some e
event_heard heard.Unread = None
event_heard heard.Close = None

-- the events among what was heard, in order
abbrev pub events : Log → List Event
events log = filter_map (λ (x : Datagram × Heard). event_heard x.1) log

abbrev pub is_unread : Heard → Bool
is_unread (heard.Event e) = false
is_unread heard.Unread = true
is_unread heard.Close = false

-- how many datagrams were unread
abbrev pub unread : Log → ℕ
unread log = length (filter (λ (x : Datagram × Heard). is_unread x.1) log)

abbrev pub is_close : Heard → Bool
is_close (heard.Event e) = false
is_close heard.Unread = false
is_close heard.Close = true

-- whether CLOSE is among them
abbrev pub closes : Log → Bool
closes log = list_any (λ (x : Datagram × Heard). is_close x.1) log

abbrev pub AllSay : Language → Log → Type 0
AllSay language log = AllByRecursion (λ (x : Datagram × Heard). Says language x.0 x.1) log

-- ---- one datagram

-- what came of it: a port that sent its event, or couldn't, or had none to send
abbrev pub IsPassedOn : Heard → PortSeats → PortSeats → Told → Type 0
IsPassedOn (heard.Event e) old new told.Sent = Sends old (e ∷ []) new
IsPassedOn (heard.Event e) old new told.Gone = Misses old e new
IsPassedOn (heard.Event e) old new told.Unread = ⊥
IsPassedOn (heard.Event e) old new told.Close = ⊥
IsPassedOn heard.Unread old new told.Sent = ⊥
IsPassedOn heard.Unread old new told.Gone = ⊥
IsPassedOn heard.Unread old new told.Unread = new ≡ old
IsPassedOn heard.Unread old new told.Close = ⊥
IsPassedOn heard.Close old new told.Sent = ⊥
IsPassedOn heard.Close old new told.Gone = ⊥
IsPassedOn heard.Close old new told.Unread = ⊥
IsPassedOn heard.Close old new told.Close = new ≡ old

-- ---- all of them

-- whether a feed ended since its wire failed
abbrev pub is_fault : FeedEnd → Bool
is_fault Done = false
is_fault Fault = true
is_fault Gone = false

-- CLOSE came last
pub record ClosesLast (log : Log) : Type 0 where
  pub before : Log
  pub last : Datagram
  pub whole : log ≡ before ++ (last, heard.Close) ∷ []
  pub unclosed : closes before ≡ false

-- the event of the last datagram was missed, and those before it were sent
pub record MissesLast (log : Log) (old new : PortSeats) : Type 0 where
  pub before : Log
  pub last : Datagram
  pub event : Event
  pub mid : PortSeats
  pub whole : log ≡ before ++ (last, heard.Event event) ∷ []
  pub unclosed : closes before ≡ false
  pub sent : Sends old (events before) mid
  pub missed : Misses mid event new

-- how it ends. Done: after so many datagrams, or at CLOSE. Fault: the wire failed. Gone: the last event was missed
abbrev pub Ends : ℕ → Log → PortSeats → PortSeats → FeedEnd → Type 0
Ends count log old new Done = Sends old (events log) new × (((length log ≡ count) × (closes log ≡ false)) ⊎ ClosesLast log)
Ends count log old new Fault = Sends old (events log) new × (closes log ≡ false)
Ends count log old new Gone = MissesLast log old new

-- a port was fed with what these datagrams say, and this is the report of it. However it ended, there are no more of them
-- than were asked for
pub record IsFed (language : Language) (count : ℕ) (log : Log) (old new : PortSeats) (report : FeedReport) : Type 0 where
  pub say : AllSay language log
  pub seen : report.seen ≡ length log
  pub few : length log ≤ count
  pub unread_are : report.unread ≡ unread log
  pub ends : Ends count log old new report.end

-- the failures of the wire: one more at a fault
abbrev pub failures_at : FeedEnd → ℕ → ℕ
failures_at Done n = n
failures_at Fault n = one_more n
failures_at Gone n = n
