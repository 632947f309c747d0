-- What becomes of each line of an input, and how a run ends.
--
--   status   cause
--   0        the input ended, and the service did each line
--   1        the input ended, and some line was refused: it is none that is asked, or the service answered something else
--   3        the service takes no more, nobody answered, or a socket or the input failed
--   4        memory was wanting
use Rattle.std.specs.Prelude.{◌≡◌, ◌⊎◌, ℕ, Bool, true, false, ◌||◌, List, [], ◌∷◌, ◌++◌, Option, Some, None}
use Rattle.std.specs.List.{AllByRecursion}
use Rattle.std.specs.Io.KnownBytes.{IsAtEnd}
use Rattle.control_lines.specs.Asking.{Turn}
use Rattle.telling.specs.declared.hearing.Heard.TheVariants as heard
use Rattle.telling.specs.declared.end.Fate.{Fate}
use Rattle.telling.specs.declared.end.Fate.TheVariants as fate
use Rattle.telling.specs.declared.end.LinesEnd.{LinesEnd}
use Rattle.telling.specs.declared.end.LinesEnd.TheVariants as end
use Rattle.telling.specs.Input.{IsCutOff}
use Rattle.telling.specs.Kinds.{IsTold, IsLeftOut}
use Rattle.telling.specs.Hearing.{TellerSeen, IsAsked, IsGivenUp, seen}
use Rattle.telling.specs.declared.telling.Telling.{Telling}

-- the exit status of the program
abbrev pub status_of : LinesEnd → ℕ
status_of end.Done = 0
status_of end.Refused = 1
status_of end.Closed = 3
status_of end.Silent = 3
status_of end.Fault = 3
status_of end.Unread = 3
status_of end.NoMemory = 4

-- ---- one line

-- this became of a line that is asked
abbrev pub IsTaken : List ℕ → Fate → TellerSeen → TellerSeen → Type 0
IsTaken line fate.Blank old new = ⊥
IsTaken line fate.Untold old new = ⊥
IsTaken line (fate.Asked came) old new = IsAsked line came old new
IsTaken line fate.NoSocket old new = IsGivenUp line old new
IsTaken line fate.NoMemory old new = IsGivenUp line old new

-- this became of a line: one that says nothing is left out, one that is not to be asked is refused, and any other is asked
abbrev pub Takes : Bool → List ℕ → Fate → TellerSeen → TellerSeen → Type 0
Takes takes_progress line fate.Blank old new = IsLeftOut line × (new ≡ old)
Takes takes_progress line fate.Untold old new = ¬ (IsLeftOut line) × ¬ (IsTold takes_progress line) × (new ≡ old)
Takes takes_progress line (fate.Asked came) old new = IsTold takes_progress line × IsAsked line came old new
Takes takes_progress line fate.NoSocket old new = IsTold takes_progress line × IsGivenUp line old new
Takes takes_progress line fate.NoMemory old new = IsGivenUp line old new

-- ---- one line behind the other

-- what is left of the input, where that is known, and who tells its lines
pub record TellingSeen : Type 0 where
  pub input : Option (List ℕ)
  pub teller : TellerSeen

abbrev pub telling_seen : {B S : Type 0} → (B → Option (List ℕ)) → (S → ℕ) → (S → Option (List Turn)) → Telling B S → TellingSeen
telling_seen remaining asked turns telling = record { input = remaining telling.reader; teller = seen asked turns telling.teller }

-- a line of the input, and what became of it
pub record Entry : Type 0 where
  pub line : List ℕ
  pub fate : Fate

-- the next line of the input was this one, and this became of it
pub record TakesNext (takes_progress : Bool) (entry : Entry) (old new : TellingSeen) : Type 0 where
  pub cut : IsCutOff old.input new.input entry.line
  pub taken : Takes takes_progress entry.line entry.fate old.teller new.teller

-- these lines were the next ones, one behind the other, and nothing else was asked
abbrev pub IsRun : Bool → List Entry → TellingSeen → TellingSeen → Type 0
IsRun takes_progress [] old new = new ≡ old
IsRun takes_progress (entry ∷ log) old new =
    (between : TellingSeen) × TakesNext takes_progress entry old between × IsRun takes_progress log between new

-- ---- how it ends

-- the line was refused, unasked or by the service
abbrev pub is_refused : Fate → Bool
is_refused fate.Blank = false
is_refused fate.Untold = true
is_refused (fate.Asked heard.Done) = false
is_refused (fate.Asked heard.Refused) = true
is_refused (fate.Asked heard.Closed) = false
is_refused (fate.Asked heard.Full) = false
is_refused (fate.Asked heard.Silent) = false
is_refused (fate.Asked heard.Fault) = false
is_refused fate.NoSocket = false
is_refused fate.NoMemory = false

-- how the run ends with such a line, if it does
abbrev pub end_with : Fate → Option LinesEnd
end_with fate.Blank = None
end_with fate.Untold = None
end_with (fate.Asked heard.Done) = None
end_with (fate.Asked heard.Refused) = None
end_with (fate.Asked heard.Closed) = Some end.Closed
end_with (fate.Asked heard.Full) = None
end_with (fate.Asked heard.Silent) = Some end.Silent
end_with (fate.Asked heard.Fault) = Some end.Fault
end_with fate.NoSocket = Some end.Fault
end_with fate.NoMemory = Some end.NoMemory

-- none of these lines ends the run
abbrev pub GoOn : List Entry → Type 0
GoOn log = AllByRecursion (λ (e : Entry). end_with e.fate ≡ None) log

-- one of these lines was refused
abbrev pub any_refused : List Entry → Bool
any_refused [] = false
any_refused (e ∷ log) = is_refused e.fate || any_refused log

-- the last of these lines ends the run so, and none before it does
abbrev pub IsEndedBy : LinesEnd → List Entry → Type 0
IsEndedBy how log = (before : List Entry) × (last : Entry) × (log ≡ before ++ last ∷ []) × GoOn before × (end_with last.fate ≡ Some how)

-- a run of these lines ends so, where this is left of the input
abbrev pub EndsSo : LinesEnd → List Entry → Option (List ℕ) → Type 0
EndsSo end.Done log rest = IsAtEnd rest × GoOn log × (any_refused log ≡ false)
EndsSo end.Refused log rest = IsAtEnd rest × GoOn log × (any_refused log ≡ true)
EndsSo end.Closed log rest = IsEndedBy end.Closed log
EndsSo end.Silent log rest = IsEndedBy end.Silent log
EndsSo end.Fault log rest = IsEndedBy end.Fault log
EndsSo end.Unread log rest = GoOn log
EndsSo end.NoMemory log rest = GoOn log ⊎ IsEndedBy end.NoMemory log

-- the lines of the input were taken in their order, each that is to be asked was asked, no other was, and the run ended so
pub record TellsLines (takes_progress : Bool) (old new : TellingSeen) (end : LinesEnd) : Type 0 where
  pub log : List Entry
  pub rest : Option (List ℕ)
  pub run : IsRun takes_progress log old (record { input = rest; teller = new.teller })
  pub ends : EndsSo end log rest
