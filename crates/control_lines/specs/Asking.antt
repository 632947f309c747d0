-- How `notifyd tell` asks.
use Rattle.std.specs.Prelude.{◌≡◌, ℕ, suc, ◌≤◌, List, [], ◌∷◌, ◌++◌, length, take, replicate, Option, Some, None, Result, Ok, Err}
use Rattle.transport.specs.Devices.{rises}
use Rattle.transport.specs.Wires.{Grows}
use Rattle.control_lines.specs.declared.asking.TellOutcome.{TellOutcome}
use Rattle.control_lines.specs.declared.asking.TellOutcome.TheVariants as outcome
use Rattle.control_lines.specs.declared.asking.SpeakerFault.{SpeakerFault}
use Rattle.control_lines.specs.Lines.{IsYes}

-- the exit status of the program
abbrev pub status_of : TellOutcome → ℕ
status_of (outcome.Done n) = 0
status_of (outcome.Refused n) = 1
status_of outcome.Silent = 3
status_of outcome.Fault = 3

-- ---- one line, asked once

-- what came of it: an answer, or none in time, or the device failed
abbrev pub Came : Type 0
Came = Result (Option (List ℕ)) SpeakerFault

-- the answer stands at the beginning of the room, of this length
abbrev pub came_in : Result (Option ℕ) SpeakerFault → List ℕ → Came
came_in (Ok (Some n)) room = Ok (Some (take n room))
came_in (Ok None) room = Ok None
came_in (Err e) room = Err e

-- a line that was asked, and what came of it
abbrev pub Turn : Type 0
Turn = List ℕ × Came

-- ---- one line, asked until an answer comes

-- how often a speaker has asked, and, where it tells them, its turns, in order
pub record SpeakerSeen : Type 0 where
  pub asked : ℕ
  pub turns : Option (List Turn)

-- it asked this line so often in vain, and nothing else
pub record IsSilent (tries : ℕ) (line : List ℕ) (old new : SpeakerSeen) : Type 0 where
  pub asked : new.asked ≡ rises tries old.asked
  pub turns : Grows old.turns new.turns (replicate tries (line, Ok None))

-- it asked this line, at most four times in vain, then once more, and nothing else. This came of the last time
pub record Ends (line : List ℕ) (came : Came) (old new : SpeakerSeen) : Type 0 where
  pub vain : ℕ
  pub few : vain ≤ 4
  pub asked : new.asked ≡ rises (suc vain) old.asked
  pub turns : Grows old.turns new.turns (replicate vain (line, Ok None) ++ (line, came) ∷ [])

-- the line was asked until an answer came, which stands in the room now, or the device failed, or five times in vain
abbrev pub ComesOf : List ℕ → TellOutcome → SpeakerSeen → SpeakerSeen → List ℕ → Type 0
ComesOf line (outcome.Done n) old new room = (n ≤ length room) × IsYes (take n room) × Ends line (Ok (Some (take n room))) old new
ComesOf line (outcome.Refused n) old new room = (n ≤ length room) × ¬ (IsYes (take n room)) × Ends line (Ok (Some (take n room))) old new
ComesOf line outcome.Silent old new room = IsSilent 5 line old new
ComesOf line outcome.Fault old new room = (e : SpeakerFault) × Ends line (Err e) old new
