-- What a thread hears by a wire, to its end.
use Rattle.std.specs.Prelude.{◌≡◌, ℕ, false, List, Option, None}
use Rattle.transport.specs.declared.datagram.Datagram.{Datagram}
use Rattle.transport.specs.Wires.{Grows}
use Rattle.crew.specs.Kept.{SameSeats}
use Rattle.crew.specs.Ports.{PortSeats, IsLeftByClose}
use Rattle.feeds.specs.Fed.{Log, datagrams, IsFed}
use Rattle.feeds.specs.declared.feeding.FeedReport.{FeedReport}
use Rattle.feeds.specs.declared.hearing.Language.{Language}
use Rattle.feeds.specs.declared.hearing.Language.TheVariants as language
use Rattle.udp_command.specs.declared.udp_listening.Intake.{Intake}
use Rattle.udp_command.specs.declared.udp_listening.Intake.TheVariants as intake

-- the most control lines that are heard
abbrev pub most_lines : ℕ
most_lines = 1048576

-- what is spoken where a thread hears
abbrev pub language_of : Intake → Language
language_of (intake.Sip count) = language.Sip
language_of intake.Control = language.Control

-- how many datagrams it takes at most
abbrev pub count_of : Intake → ℕ
count_of (intake.Sip count) = count
count_of intake.Control = most_lines

-- an open port was fed with what the datagrams say that a wire gave, and then closed: each worker has its end mark then, or
-- only some have it, and one at least has not, where a worker is gone
pub record HearsOut (told told' : Option (List Datagram)) (language : Language) (count : ℕ) (old new : PortSeats) (report : FeedReport) : Type 0 where
  pub log : Log
  pub fed_to : PortSeats
  pub given : Grows told told' (datagrams log)
  pub fed : IsFed language count log old fed_to report
  pub shut : new.is_open ≡ false
  pub ends : IsLeftByClose fed_to new
  pub seats : SameSeats old new

-- at a socket, which tells nothing of its datagrams
abbrev pub HearsOutSocket : Language → ℕ → PortSeats → PortSeats → FeedReport → Type 0
HearsOutSocket language count old new report = HearsOut None None language count old new report
