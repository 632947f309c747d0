-- What holds of a clock over whole runs of readings and sends.
use Rattle.std.specs.Prelude.{◌≡◌, ◌≤◌, ℕ, ◌+◌, Option, Some, None, is_some, true, List, [], ◌∷◌}
use Rattle.outage_clock.specs.declared.clock.TheConstants.{GAP}
use Rattle.outage_clock.specs.Moments.{ClockSeen, held, looked}

-- what a clock is told, one after the other
pub data Step : Type 0 where
  -- the system's clock reads so
  Look : (reading : ℕ) → Step
  -- sends fail, and up to this moment it may run; or one has succeeded
  Hold : (stop : Option ℕ) → Step

abbrev pub step : Step → ClockSeen → ClockSeen
step (Look reading) c = looked reading c
step (Hold stop) c = held stop c

-- the clock after these
abbrev pub run : List Step → ClockSeen → ClockSeen
run [] c = c
run (s ∷ steps) c = run steps (step s c)

-- never ahead of what it read, and no more may be left out than its limit: so is each that begins, and then each that goes on
pub record IsSound (c : ClockSeen) : Type 0 where
  pub behind : c.given ≤ c.read
  pub within : c.left ≤ c.limit

abbrev pub NeverFalls : Type 0
NeverFalls = (steps : List Step) (c : ClockSeen) → c.given ≤ (run steps c).given

-- from one reading to a later one it doesn't give more than passed
abbrev pub NeverFaster : Type 0
NeverFaster = (steps : List Step) (c : ClockSeen) → (run steps c).given + c.read ≤ (run steps c).read + c.given

-- between two readings no more than two seconds pass: the process doesn't stand still
abbrev pub IsSteady : List Step → ClockSeen → Type 0
IsSteady [] c = Unit {0}
IsSteady (Look reading ∷ steps) c = (reading ≤ c.read + GAP) × IsSteady steps (looked reading c)
IsSteady (Hold stop ∷ steps) c = IsSteady steps (held stop c)

-- what it reads grows at most by its limit more than twice as much as what it gives
abbrev pub LosesAtMost : Type 0
LosesAtMost = (steps : List Step) (c : ClockSeen) → IsSound c → IsSteady steps c
    → (run steps c).read + (c.given + c.given) ≤ c.read + ((run steps c).given + (run steps c).given) + c.limit

-- no send succeeds meanwhile
abbrev pub fails : Step → Type 0
fails (Look reading) = Unit {0}
fails (Hold stop) = is_some stop ≡ true

abbrev pub AllFail : List Step → Type 0
AllFail [] = Unit {0}
AllFail (s ∷ steps) = fails s × AllFail steps

-- from the failure on with which an outage begins, what it reads grows by no more than its limit above what it gives
abbrev pub EachOutageLosesAtMost : Type 0
EachOutageLosesAtMost = (stop : ℕ) (steps : List Step) (c : ClockSeen) → IsSound c → IsSteady steps (held (Some stop) c) → AllFail steps
    → (run steps (held (Some stop) c)).read + c.given ≤ c.read + (run steps (held (Some stop) c)).given + c.limit

-- no send fails meanwhile
abbrev pub succeeds : Step → Type 0
succeeds (Look reading) = Unit {0}
succeeds (Hold stop) = stop ≡ None

abbrev pub AllSucceed : List Step → Type 0
AllSucceed [] = Unit {0}
AllSucceed (s ∷ steps) = succeeds s × AllSucceed steps

-- it gives just what passed
abbrev pub IsRealTime : Type 0
IsRealTime = (steps : List Step) (c : ClockSeen) → IsSteady steps (held None c) → AllSucceed steps
    → (run steps (held None c)).given + c.read ≡ (run steps (held None c)).read + c.given
