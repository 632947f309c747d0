-- The open transactions of a sender of NOTIFYs, and what each call makes of them (RFC 3261 section 17.1.2).
use Rattle.std.specs.Prelude.{ℕ, ◌+◌, ◌-◌, ◌/◌, ◌^◌, Bool, not, ◌||◌, ◌==◌, nat_le, Option, Some, None, option_map, option_and_then, List, [], ◌∷◌, ◌++◌, length, filter_map, if◌then◌else◌}
use Rattle.std.specs.List.{list_any, filter}
use Rattle.sip_text.specs.declared.address.Addr.{Addr}
use Rattle.transactions.specs.declared.allowance.Allowance.{Allowance}
use Rattle.transactions.specs.declared.allowance.TheConstants.{FIRST}
use Rattle.transactions.specs.declared.open.Open.{Open}
use Rattle.transactions.specs.declared.open.TheConstants.{GONE}
use Rattle.transactions.specs.declared.unkept.Unkept.{Unkept}
use Rattle.transactions.specs.declared.unkept.Unkept.TheVariants.{Twice, Full, Many}
use Rattle.transactions.specs.Timers.{has_name, has_tag, sent, proceeding, again, is_over, alarm}

-- how many may be open, of all and with one tag, how many were ever kept, and those that are open, in the order of keeping
pub record State : Type 0 where
  pub allowance : Allowance
  pub kept : ℕ
  pub live : List Open

abbrev pub empty : Allowance → State
empty allowance = record { allowance = allowance; kept = 0; live = [] }

-- ---- a NOTIFY was sent, and is kept

abbrev pub is_open : List ℕ → ℕ → State → Bool
is_open tag number s = list_any (has_name tag number) s.live

-- how many may be open where one with this number is to be kept: of a subscription's first NOTIFYs half of all
abbrev pub places : Allowance → ℕ → ℕ
places allowance number = if number == FIRST then allowance.all - allowance.all / 2 else allowance.all

abbrev pub is_full : ℕ → State → Bool
is_full number s = nat_le (places s.allowance number) (length s.live) || (s.kept == 2 ^ 64 - 1)

-- as many with this tag are open as may be
abbrev pub is_crowded : List ℕ → State → Bool
is_crowded tag s = nat_le s.allowance.per_tag (length (filter (has_tag tag) s.live))

-- why it is not kept, if it is not
unfoldable pub refusal : State → List ℕ → ℕ → Option Unkept
refusal s tag number = if is_open tag number s then Some Twice else if is_full number s then Some Full else if is_crowded tag s then Some Many else None

-- one with this name is kept, if none is open that has it
unfoldable pub has_room : State → List ℕ → ℕ → Bool
has_room s tag number = not (is_full number s || is_crowded tag s)

abbrev pub with_sent : Option Unkept → Open → State → State
with_sent None t s = record s { kept = s.kept + 1; live = s.live ++ t ∷ [] }
with_sent (Some why) t s = s

unfoldable pub keep : State → ℕ → List ℕ → ℕ → Addr → List ℕ → State
keep s now tag number to bytes = with_sent (refusal s tag number) (sent s.kept now tag number to bytes) s

-- ---- one of them changes, or ends

abbrev pub wherever : List ℕ → ℕ → (Open → Option Open) → Open → Option Open
wherever tag number rule t = if has_name tag number t then rule t else Some t

-- the one with this name, if there is one, becomes what the rule makes of it; the others stay
abbrev pub at_name : List ℕ → ℕ → (Open → Option Open) → State → State
at_name tag number rule s = record s { live = filter_map (wherever tag number rule) s.live }

-- A final answer ends it; after a provisional one timer E runs for T2 (17.1.2.2).
abbrev pub answered : ℕ → Open → Option Open
answered status t = if nat_le 200 status then None else Some (proceeding t)

abbrev pub without : List ℕ → List Open → List Open
without tag live = filter (λ t. not (has_tag tag t)) live

-- A 481 ends all of its tag, since the dialog's usage is gone (RFC 6665 section 4.2.2, RFC 3261 section 12.2.1.2).
unfoldable pub answer : State → List ℕ → ℕ → ℕ → State
answer s tag number status = if status == GONE then record s { live = without tag s.live } else at_name tag number (answered status) s

-- ---- time

-- the one whose alarm comes first; of several at one moment the one that was kept first
abbrev pub sooner : Open → Option Open → Open
sooner t None = t
sooner t (Some u) = if nat_le (alarm t) (alarm u) then t else u

abbrev pub soonest : List Open → Option Open
soonest [] = None
soonest (t ∷ ts) = Some (sooner t (soonest ts))

abbrev pub is_up : ℕ → Open → Bool
is_up now t = nat_le (alarm t) now

abbrev pub if_up : ℕ → Open → Option Open
if_up now t = if is_up now t then Some t else None

abbrev pub due_among : List Open → ℕ → Option Open
due_among live now = option_and_then (if_up now) (soonest live)

-- the transaction for which time asks for something at this moment
unfoldable pub due : State → ℕ → Option Open
due s now = due_among s.live now

-- timer F ends it, and timer E has it sent again (17.1.2.2)
abbrev pub turned : ℕ → Open → Option Open
turned now t = if is_over now t then None else Some (again now t)

abbrev pub with_turned : ℕ → Option Open → State → State
with_turned now None s = s
with_turned now (Some t) s = at_name t.tag t.number (turned now) s

-- what was due is done
unfoldable pub turn : State → ℕ → State
turn s now = with_turned now (due s now) s

-- the moment at which the next is due
unfoldable pub next_moment : State → Option ℕ
next_moment s = option_map alarm (soonest s.live)

-- how many are due at a moment
abbrev pub up_count : ℕ → Option Open → ℕ
up_count now None = 0
up_count now (Some t) = if is_up now t then 1 else 0

abbrev pub ups : ℕ → List Open → ℕ
ups now [] = 0
ups now (t ∷ ts) = up_count now (Some t) + ups now ts
