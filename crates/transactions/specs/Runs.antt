-- A whole run of calls, and what holds of each NOTIFY that is sent again (RFC 3261 section 17.1.2.2).
use Rattle.std.specs.Prelude.{◌≡◌, ℕ, zero, suc, ◌+◌, ◌*◌, ◌^◌, ◌<◌, ◌≤◌, min, Bool, false, ◌&&◌, ◌||◌, ◌==◌, nat_le, bytes_eq, Option, Some, None, option_and_then, List, [], ◌∷◌, ◌++◌, if◌then◌else◌}
use Rattle.std.specs.List.{AllByRecursion, Contains}
use Rattle.sip_text.specs.declared.address.Addr.{Addr}
use Rattle.transactions.specs.declared.allowance.Allowance.{Allowance}
use Rattle.transactions.specs.declared.open.Open.{Open}
use Rattle.transactions.specs.declared.open.TheConstants.{T1, T2, PATIENCE, GONE}
use Rattle.transactions.specs.Timers.{is_named, is_over, alarm}
use Rattle.transactions.specs.Machine.{State, empty, refusal, keep, answer, due, turn, next_moment}

pub data Call : Type 0 where
  Keep : (now : ℕ) (tag : List ℕ) (number : ℕ) (to : Addr) (bytes : List ℕ) → Call
  Answer : (tag : List ℕ) (number status : ℕ) → Call
  Turn : (now : ℕ) → Call

abbrev pub after : Call → State → State
after (Keep now tag number to bytes) s = keep s now tag number to bytes
after (Answer tag number status) s = answer s tag number status
after (Turn now) s = turn s now

-- the state after these calls, one after another
abbrev pub state_after : List Call → State → State
state_after [] s = s
state_after (call ∷ calls) s = state_after calls (after call s)

abbrev pub unless_over : ℕ → Open → Option Open
unless_over now t = if is_over now t then None else Some t

-- the transaction whose NOTIFY is sent again at this moment
abbrev pub repeated : State → ℕ → Option Open
repeated s now = option_and_then (unless_over now) (due s now)

-- the one whose NOTIFY is sent again with this call
abbrev pub repeat_made : Call → State → Option Open
repeat_made (Keep now tag number to bytes) s = None
repeat_made (Answer tag number status) s = None
repeat_made (Turn now) s = repeated s now

-- how often the NOTIFY with this name is sent again in these calls
abbrev pub times : List ℕ → ℕ → List Call → State → ℕ
times tag number [] s = 0
times tag number (call ∷ calls) s = (if is_named tag number (repeat_made call s) then 1 else 0) + times tag number calls (after call s)

-- an answer that ends the NOTIFY with this name: a final one to it, or a 481 to its tag
abbrev pub is_end : List ℕ → ℕ → Call → Bool
is_end tag number (Keep now other n to bytes) = false
is_end tag number (Answer other n status) = bytes_eq tag other && ((status == GONE) || (nat_le 200 status && (number == n)))
is_end tag number (Turn now) = false

-- how long after the first send the NOTIFY may come again, where it came again so often before
abbrev pub earliest : ℕ → ℕ
earliest zero = 500
earliest (suc zero) = 1500
earliest (suc (suc zero)) = 3500
earliest (suc (suc (suc n))) = 7500 + 4000 * n

-- the call that kept a transaction
abbrev pub keeping : Open → Call
keeping t = Keep t.first t.tag t.number t.to t.bytes

-- how often the NOTIFY of t came again, where it was kept behind these calls and those came since
abbrev pub repeats : Allowance → List Call → List Call → Open → ℕ
repeats allowance earlier since t = times t.tag t.number since (state_after (earlier ++ keeping t ∷ []) (empty allowance))

-- what holds where the NOTIFY of t is sent again at this moment, after these calls
pub record IsDueRepeat (allowance : Allowance) (before : List Call) (now : ℕ) (t : Open) : Type 0 where
  -- it was kept
  pub earlier : List Call
  pub since : List Call
  pub split : before ≡ earlier ++ keeping t ∷ since
  pub kept : refusal (state_after earlier (empty allowance)) t.tag t.number ≡ None
  -- and no answer that ends it came since
  pub unanswered : AllByRecursion (λ call. is_end t.tag t.number call ≡ false) since
  -- it is time, and it came again less than ten times
  pub waited : t.first + earliest (repeats allowance earlier since t) ≤ now
  pub seldom : repeats allowance earlier since t < 10
  -- and not too late
  pub in_time : now < t.first + PATIENCE

abbrev pub EachRepeatIsDue : Type 0
EachRepeatIsDue = (allowance : Allowance) (before : List Call) (now : ℕ) (t : Open) → repeated (state_after before (empty allowance)) now ≡ Some t → IsDueRepeat allowance before now t

-- ---- each comes again in time

-- an answer to the NOTIFY with this name
abbrev pub is_answer : List ℕ → ℕ → Call → Bool
is_answer tag number (Keep now other n to bytes) = false
is_answer tag number (Answer other n status) = bytes_eq tag other && (number == n)
is_answer tag number (Turn now) = false

-- when the NOTIFY with this name was sent last, where that was at `last` before this call
abbrev pub newest_send : List ℕ → ℕ → ℕ → Call → State → ℕ
newest_send tag number last (Keep now other n to bytes) s = last
newest_send tag number last (Answer other n status) s = last
newest_send tag number last (Turn now) s = if is_named tag number (repeated s now) then now else last

-- and behind these calls
abbrev pub last_send : List ℕ → ℕ → ℕ → List Call → State → ℕ
last_send tag number last [] s = last
last_send tag number last (call ∷ calls) s = last_send tag number (newest_send tag number last call s) calls (after call s)

-- to how long timer E is set behind a send, where the NOTIFY came again so often: T1, then twice as long each time, up to T2
abbrev pub timer_e : ℕ → ℕ
timer_e n = min T2 (T1 * 2 ^ n)

-- what holds of a transaction that is open behind these calls
pub record ComesInTime (allowance : Allowance) (calls : List Call) (t : Open) : Type 0 where
  -- it was kept
  pub earlier : List Call
  pub since : List Call
  pub split : calls ≡ earlier ++ keeping t ∷ since
  pub kept : refusal (state_after earlier (empty allowance)) t.tag t.number ≡ None
  -- and sent last at this moment
  pub last : ℕ
  pub sent : last ≡ last_send t.tag t.number t.first since (state_after (earlier ++ keeping t ∷ []) (empty allowance))
  -- timer E fires T2 behind that at the latest, and timer F once the patience is over
  pub soon : alarm t ≤ min (last + T2) (t.first + PATIENCE)
  -- and timer E just when its time is over, where no provisional answer came
  pub doubled : AllByRecursion (λ call. is_answer t.tag t.number call ≡ false) since → alarm t ≡ min (last + timer_e (repeats allowance earlier since t)) (t.first + PATIENCE)

abbrev pub EachComesInTime : Type 0
EachComesInTime = (allowance : Allowance) (calls : List Call) (t : Open) → Contains (state_after calls (empty allowance)).live t → ComesInTime allowance calls t

-- ---- none is forgotten

-- where the alarm of an open transaction is up, one is due whose alarm comes no later
abbrev pub NoneIsPassedOver : Type 0
NoneIsPassedOver = (s : State) (now : ℕ) (t : Open) → Contains s.live t → alarm t ≤ now → (u : Open) × (due s now ≡ Some u) × (alarm u ≤ alarm t)

-- the next moment is no later than any alarm
abbrev pub NextIsInTime : Type 0
NextIsInTime = (s : State) (t : Open) → Contains s.live t → (moment : ℕ) × (next_moment s ≡ Some moment) × (moment ≤ alarm t)
