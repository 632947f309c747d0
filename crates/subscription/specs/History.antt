-- A whole life of a subscription: how it begins, the causes that befall it in order, and the NOTIFYs that they give.
use Rattle.std.specs.Prelude.{◌≡◌, ℕ, ◌≤◌, Bool, true, Option, Some, None, Result, Ok, Err, List, [], ◌∷◌, ◌++◌, map, length, All}
use Rattle.std.specs.List.{range_with_len}
use Rattle.sip_text.specs.declared.address.Addr.{Addr}
use Rattle.sip_read.specs.declared.message.Response.{Response}
use Rattle.subscription.specs.declared.terms.Usage.{Usage}
use Rattle.subscription.specs.declared.terms.Want.{Want}
use Rattle.subscription.specs.declared.notify.Notice.{Notice}
use Rattle.subscription.specs.declared.notify.Reason.{Reason}
use Rattle.subscription.specs.declared.life.Step.{Step}
use Rattle.subscription.specs.declared.life.Step.TheVariants.{Live, Over}
use Rattle.subscription.specs.State.{State}
use Rattle.subscription.specs.Table.{accept, fetch, refresh, changed, end, refused_by, lost}
use Rattle.subscription.specs.Written.{is_terminated}

pub data Beginning : Type 0 where
  Accepted : (usage : Usage) (want : Want) (moment granted : ℕ) → Beginning
  Fetched : (usage : Usage) (want : Want) → Beginning

pub data Cause : Type 0 where
  Refreshed : (cseq : ℕ) (target : Option (List ℕ)) (to : Addr) (moment granted : ℕ) → Cause
  Changed : (moment : ℕ) (is_over : Bool) → Cause
  Ended : (reason : Reason) → Cause
  Answered : (answer : Response) → Cause
  Lost : Cause

-- the state that follows, where one does, and the NOTIFYs: one or none
pub record Outcome : Type 0 where
  pub state : Option State
  pub notices : List Notice

abbrev pub of_step : Step → Outcome
of_step (Live s notice) = record { state = Some s; notices = notice ∷ [] }
of_step (Over usage want notice) = record { state = None; notices = notice ∷ [] }

abbrev pub of_end : Usage × Want × Notice → Outcome
of_end ended = record { state = None; notices = ended.2 ∷ [] }

abbrev pub of_answer : Result Usage State → Outcome
of_answer (Ok usage) = record { state = None; notices = [] }
of_answer (Err s) = record { state = Some s; notices = [] }

abbrev pub of_loss : Usage × Want → Outcome
of_loss gone = record { state = None; notices = [] }

abbrev pub begins : Beginning → Outcome
begins (Accepted usage want moment granted) = of_step (accept usage want moment granted)
begins (Fetched usage want) = of_end (fetch usage want)

abbrev pub befalls : Cause → State → Outcome
befalls (Refreshed cseq target to moment granted) s = of_step (refresh s cseq target to moment granted)
befalls (Changed moment is_over) s = of_step (changed s moment is_over)
befalls (Ended reason) s = of_end (end s reason)
befalls (Answered answer) s = of_answer (refused_by s answer)
befalls Lost s = of_loss (lost s)

-- what is told from a state on. Where there is none, no cause is left that could be told.
abbrev pub told_from : List Cause → Option State → List Notice
told_from [] state = []
told_from (cause ∷ causes) None = []
told_from (cause ∷ causes) (Some s) = (befalls cause s).notices ++ told_from causes (befalls cause s).state

abbrev pub state_from : List Cause → Option State → Option State
state_from [] state = state
state_from (cause ∷ causes) None = None
state_from (cause ∷ causes) (Some s) = state_from causes (befalls cause s).state

-- all NOTIFYs of a life
abbrev pub notices : Beginning → List Cause → List Notice
notices beginning causes = (begins beginning).notices ++ told_from causes (begins beginning).state

-- the state after a life so far
abbrev pub state_after : Beginning → List Cause → Option State
state_after beginning causes = state_from causes (begins beginning).state

-- the last number that its dialog may use
abbrev pub last_number : Beginning → ℕ
last_number (Accepted usage want moment granted) = want.max_cseq
last_number (Fetched usage want) = want.max_cseq

-- ---- what holds of the NOTIFYs of every life

-- they are numbered 1, 2, 3 ..
abbrev pub AreNumbered : List Notice → Type 0
AreNumbered told = map (λ notice. notice.number) told ≡ range_with_len 1 (length told)

-- none follows a terminated one
abbrev pub NoneFollowsTheEnd : List Notice → Type 0
NoneFollowsTheEnd told =
    (before after : List Notice) (notice : Notice) →
    told ≡ before ++ notice ∷ after → is_terminated notice.phase ≡ true → after ≡ []

-- none is numbered above this
abbrev pub AreWithin : ℕ → List Notice → Type 0
AreWithin last told = All (λ notice. notice.number ≤ last) told
