-- The page of a script that one or several workers run.
--
-- Each datagram of the script is one message, or wrong in one way (RFC 3261 section 7). The messages and the other lines of
-- the script are its events, in order. Each worker handles those that go to it: ticks, and the events whose home it is; and
-- last a Shut, where a stop is planned. The page has a line for each datagram that can't be read; then for each worker, from
-- 0, its line and all that it sent, in order.
use Rattle.std.specs.Prelude.{◌≡◌, ℕ, ◌≤◌, List, [], ◌++◌, length, map, Option, Some, None, Result, Ok, Err}
use Rattle.std.specs.List.{flat_map, filter_map, enumerate_from}
use Rattle.sip_text.specs.declared.address.Addr.{Addr}
use Rattle.sip_read.specs.declared.message.Message.{Message}
use Rattle.sip_read.specs.declared.message.Message.TheVariants as message
use Rattle.sip_read.specs.declared.error.ReadError.{ReadError}
use Rattle.sip_read.specs.Errors.{error_number}
use Rattle.sip_read.specs.Message.{Says}
use Rattle.scripts.specs.declared.script.Block.{Block}
use Rattle.scripts.specs.declared.script.Block.TheVariants as block
use Rattle.scripts.specs.Script.{IsScript}
use Rattle.scripts.specs.Page.{unread_text, worker_text, answer_text, notify_text, start_text}
use Rattle.package.specs.Content.{Maps}
use Rattle.notifier_model.specs.declared.event.Event.{Event}
use Rattle.notifier_model.specs.declared.event.Event.TheVariants as event
use Rattle.notifier_model.specs.declared.event.Out.{Out}
use Rattle.notifier_model.specs.declared.event.Out.TheVariants as out
use Rattle.notifier_model.specs.Start.{StartBy, Start}
use Rattle.notifier_model.specs.Out.{out_of}
use Rattle.notifier_model.specs.Told.{told_event}
use Rattle.notifier_model.specs.Run.{made}
use Rattle.notifier_model.specs.Home.{events_for, at_the_stop}

-- ---- what the datagrams are

-- of each datagram the message that it is, or how it is wrong
abbrev pub Readings : Type 0
Readings = List ℕ → Result Message ReadError

abbrev pub AreReadings : Readings → Type 0
AreReadings readings = (octets : List ℕ) → Says octets (readings octets)

-- the event that a datagram from this source is, if it can be read
abbrev pub event_of : Addr → Result Message ReadError → Option Event
event_of source (Ok (message.Request r)) = Some (event.Request source r)
event_of source (Ok (message.Response r)) = Some (event.Reply r)
event_of source (Err e) = None

-- the line of the datagram of this number, if it can't be read
abbrev pub unread_line : ℕ → Result Message ReadError → List ℕ
unread_line number (Ok m) = []
unread_line number (Err e) = unread_text number (error_number e)

-- ---- the events of a script

-- the octets of a datagram
abbrev pub octets_in : Block → Option (List ℕ)
octets_in (block.Sip source octets) = Some octets
octets_in (block.Change c) = None
octets_in (block.Tick n) = None

module _ (readings : Readings) where
  -- the event that a block is
  abbrev pub event_in : Block → Option Event
  event_in (block.Sip source octets) = event_of source (readings octets)
  event_in (block.Change c) = told_event c
  event_in (block.Tick n) = Some (event.Tick n)

  -- the events, in order
  abbrev pub events_of : List Block → List Event
  events_of blocks = filter_map event_in blocks

  -- the lines of the datagrams that can't be read. All datagrams are numbered, from 1
  abbrev pub unread_lines : List Block → List ℕ
  unread_lines blocks =
      flat_map (λ numbered. unread_line numbered.0 (readings numbered.1)) (enumerate_from 1 (filter_map octets_in blocks))

-- ---- what a worker prints

abbrev pub out_text : Out → List ℕ
out_text (out.Answer to octets) = answer_text to octets
out_text (out.Notify to number terminated tag note octets) = notify_text tag number to octets
out_text (out.Start tag refer_to) = start_text tag refer_to

-- how many events it handled and how many outs it made, and then the outs
abbrev pub worker_lines : ℕ → List Event → List Out → List ℕ
worker_lines worker events outs = worker_text worker (length events) (length outs) ++ flat_map out_text outs

-- ---- the page

module _ {maps : Maps} where
  -- those of these events that go to the worker with this start, one of n
  abbrev pub events_to : ℕ → List Event → StartBy maps → List Event
  events_to n es start = events_for n start.place.worker es

  -- what it handles: these, and a Shut where a stop is planned
  abbrev pub events_at : ℕ → List Event → StartBy maps → List Event
  events_at n es start = events_to n es start ++ at_the_stop start.place.stop

  -- and what is printed of it
  abbrev pub worker_page : ℕ → List Event → StartBy maps → List ℕ
  worker_page n es start = worker_lines start.place.worker (events_at n es start) (map out_of (made start (events_at n es start)))

  -- what is printed for these blocks by workers with these starts
  abbrev pub page_text : List (StartBy maps) → Readings → List Block → List ℕ
  page_text starts readings blocks =
      unread_lines readings blocks ++ flat_map (worker_page (length starts) (events_of readings blocks)) starts

-- the most bytes that a script may have
abbrev pub most_bytes : ℕ
most_bytes = 1048576

-- the bytes are a script of these blocks that isn't too long
pub record IsShortScript (bytes : List ℕ) (blocks : List Block) : Type 0 where
  pub is_script : IsScript bytes blocks
  pub is_short : length bytes ≤ most_bytes

-- this is printed for these bytes by workers with these starts
pub record IsPage (starts : List Start) (bytes page : List ℕ) : Type 0 where
  pub blocks : List Block
  pub is_script : IsShortScript bytes blocks
  pub readings : Readings
  pub are_readings : AreReadings readings
  pub whole : page ≡ page_text starts readings blocks
