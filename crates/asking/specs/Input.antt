-- What `notifyd tell -` tells, and to whom.
use Rattle.std.specs.Prelude.{◌≡◌, ◌⊎◌, ℕ, None}
use Rattle.sip_text.specs.declared.address.Addr.{Addr}
use Rattle.arguments.specs.declared.lines_call.LinesCall.{LinesCall}
use Rattle.arguments.specs.Choices.{loopback}
use Rattle.plans.specs.Plans.{reached}
use Rattle.telling.specs.declared.end.LinesEnd.{LinesEnd}
use Rattle.telling.specs.declared.speaker.UdpLineSpeaker.{UdpLineSpeaker}
use Rattle.telling.specs.Taken.{TellingSeen, TellsLines, status_of}

-- the speaker speaks to this service, and so does one that it makes anew
pub record SpeaksTo (service : Addr) (speaker : UdpLineSpeaker) : Type 0 where
  pub now : speaker.speaker.service ≡ service
  pub anew : speaker.service ≡ service

-- a speaker to the service that the call names took the lines of an input, PROGRESS lines where the call asks for these, and the run ended so
pub record TellsAll (call : LinesCall) (end : LinesEnd) : Type 0 where
  pub speaker : UdpLineSpeaker
  pub speaks : SpeaksTo (reached call.control (loopback 5061)) speaker
  pub old : TellingSeen
  pub new : TellingSeen
  pub seen : old.teller.speaker ≡ record { asked = speaker.asked; turns = None }
  pub told : TellsLines call.takes_progress old new end

-- it did, and the status is that of the end, or nothing was told: there was no socket, or memory was wanting
abbrev pub TellsInput : LinesCall → ℕ → Type 0
TellsInput call status = ((end : LinesEnd) × TellsAll call end × (status ≡ status_of end)) ⊎ (status ≡ 3) ⊎ (status ≡ 4)
