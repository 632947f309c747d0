-- The rows that stay have time left, and no more than can be granted.
use Rattle.std.proofs.Common.{◌≡◌, ℕ, zero, suc, ◌+◌, ◌<◌, ◌≤◌, min, List, [], ◌∷◌, ◌++◌, Bool, true, false, not, if◌then◌else◌, ◌==◌, nat_le, Option, Some, None, option_to_list, All, refl, sym, subst, arith}
use Rattle.std.proofs.lemmas.Bool.Decides.{nat_tests}
use Rattle.std.specs.Prelude.{IfSome, ◌&&◌}
use Rattle.std.proofs.lemmas.List.Elements.{All-nil, All-cons, All-head, All-tail, All-append, All-push}
use Rattle.sip_text.specs.declared.address.Addr.{Addr}
use Rattle.sip_read.specs.declared.message.Request.{Request}
use Rattle.sip_read.specs.declared.message.Response.{Response}
use Rattle.subscription.specs.declared.terms.Usage.{Usage}
use Rattle.subscription.specs.declared.terms.Want.{Want}
use Rattle.subscription.specs.declared.notify.Notice.{Notice}
use Rattle.subscription.specs.declared.notify.Reason.TheVariants.{Timeout}
use Rattle.subscription.specs.declared.life.Step.{Step}
use Rattle.subscription.specs.declared.life.Step.TheVariants.{Live, Over}
use Rattle.subscription.specs.State.{State}
use Rattle.subscription.specs.Table.{told, accept, fetch, refresh, end, over, changed, is_answer_to, refuses}
use Rattle.package.specs.Content.{Maps, is_final}
use Rattle.notifier_model.specs.declared.place.Place.{Place}
use Rattle.notifier_model.specs.declared.row.Row.{Row}
use Rattle.notifier_model.specs.Limits.{Limits, AreLimits}
use Rattle.notifier_model.specs.Requests.{is_refer, asked, granted, asks_nothing, birth_of}
use Rattle.notifier_model.specs.declared.birth.Birth.{Birth}
use Rattle.notifier_model.specs.declared.birth.Newborn.{Newborn}
use Rattle.notifier_model.specs.declared.birth.Birth.TheVariants.{Watch, Fetch, Transfer, Unwatched}
use Rattle.notifier.proofs.Births.{watch_asks, transfer_asks}
use Rattle.notifier_model.specs.Rows.{Telling, Turned, wherever, opened, with_sub, turned, tells, stays, goes, sweep, only, counted, closed, takes_answer, answered, renewed, renewed_sub, watches, tells_change, tells_watcher, is_overdue, ends, times_out, stops}
use Rattle.notifier_model.specs.Fields.{value_of}
use Rattle.notifier_model.specs.Book.{new_usage, new_want, new_row, first_step, first_turned, first_told}
use Rattle.notifier.specs.Sound.{IsLive, AreTimely, AreInOrder}
use Rattle.notifier.proofs.Passes.{left}
use Rattle.notifier.proofs.Timely.{timely_none, timely_push, timely_filter}

-- ---- all rows

all_some : (P : Row → Type 0) (o : Option Row) (rows : List Row) → IfSome o P → All P rows → All P (option_to_list o ++ rows)
all_some P None rows h t = t
all_some P (Some row) rows h t = All-cons P row rows h t

pub all_left : (rule : Row → Turned) (P Q : Row → Type 0) → ((row : Row) → P row → IfSome (rule row).row Q) → (rows : List Row) → All P rows → All Q (left rule rows)
unfolding sweep
all_left rule P Q keep [] h = All-nil Q
all_left rule P Q keep (row ∷ rows) h = all_some Q (rule row).row (left rule rows) (keep row (All-head P row rows h)) (all_left rule P Q keep rows (All-tail P row rows h))

pub all_more : (P : Row → Type 0) (rows : List Row) (o : Option Row) → All P rows → IfSome o P → All P (rows ++ option_to_list o)
all_more P rows None h s = All-append P rows [] h (All-nil P)
all_more P rows (Some row) h s = All-push P rows row h s

-- ---- one row

pub only_keeps : (serial : ℕ) (rule : Row → Turned) (P : Row → Type 0) (row : Row) → P row → IfSome (rule row).row P → IfSome (only serial rule row).row P
unfolding only wherever stays
only_keeps serial rule P row h k = by (row.serial == serial)
  where
    by : (b : Bool) → IfSome (if b then rule row else stays row).row P
    by true = k
    by false = h

-- a step that leaves time
abbrev pub StepLives : ℕ → Step → Type 0
StepLives clock (Live s notice) = (clock < s.due) × (s.due ≤ clock + 4294967295)
StepLives clock (Over usage asked notice) = Unit {0}

pub told_lives : (clock : ℕ) (s : State) (time : ℕ) → clock < s.due → s.due ≤ clock + 4294967295 → StepLives clock (told s time)
unfolding told
told_lives clock s time a b = by (s.count == s.want.max_cseq) _ _
  where
    by : (c : Bool) (m n : Notice) → StepLives clock (if c then Over s.usage s.want m else Live s n)
    by true m n = tt
    by false m n = (a, b)

module _ {maps : Maps} where
  pub turned_lives : (t : Telling maps) (to : Addr) (row_of : State → Row) (next : Step)
      → ((s : State) → ((row_of s).sub ≡ s) × AreTimely t.clock (row_of s).unanswered) → StepLives t.clock next → IfSome (turned t to row_of next).row (IsLive t.clock)
  unfolding turned opened
  turned_lives t to row_of (Live s notice) same h = record {
    has_time = subst (λ x. t.clock < x.due) (sym (same s).0) h.0;
    time_fits = subst (λ x. x.due ≤ t.clock + 4294967295) (sym (same s).0) h.1;
    timely = timely_push t.clock (row_of s).unanswered _ refl (same s).1;
  }
  turned_lives t to row_of (Over usage asked notice) same h = tt

-- what is granted is some time, and a u32
not_zero : (n : ℕ) → (n == 0) ≡ false → 1 ≤ n
not_zero zero e = absurd (cc)
not_zero (suc n) e = omega arith

pub granted_fits : (limits : Limits) (r : Request) → AreLimits limits → asks_nothing limits r ≡ false → (1 ≤ granted limits r) × (granted limits r ≤ 4294967295)
unfolding granted asks_nothing
granted_fits limits r l e = by (is_refer r) e
  where
    by : (b : Bool) → (not b && asked limits r == 0) ≡ false → (1 ≤ (if b then limits.refer_time else min (asked limits r) limits.max_time)) × ((if b then limits.refer_time else min (asked limits r) limits.max_time) ≤ 4294967295)
    by true h = let a = l.refer_time in let b = l.max_time in let m = l.min_time in (omega arith, omega arith)
    by false h = let b = l.max_time in let m = l.min_time in let n = not_zero (asked limits r) h in (omega arith, omega arith)

-- ---- the rules

pub counted_lives : (clock serial : ℕ) (r : Request) (row : Row) → IsLive clock row → IfSome (only serial (counted r) row).row (IsLive clock)
unfolding counted stays
counted_lives clock serial r row h = only_keeps serial (counted r) (IsLive clock) row h (record { has_time = h.has_time; time_fits = h.time_fits; timely = h.timely })

pub answered_lives : (clock : ℕ) (response : Response) (row : Row) → IsLive clock row → IfSome (answered response row).row (IsLive clock)
unfolding answered wherever takes_answer closed stays goes
answered_lives clock response row h = by (is_answer_to row.sub response) (refuses response) (is_final response.status)
  where
    by : (a b c : Bool) → IfSome (if a then (if b then goes else if c then stays (closed response.head.cseq row) else stays row) else stays row).row (IsLive clock)
    by true true c = tt
    by true false true = record { has_time = h.has_time; time_fits = h.time_fits; timely = timely_filter clock _ row.unanswered h.timely }
    by true false false = h
    by false b c = h

-- what renews a row gives it time
refreshed_lives : (place : Place) (clock : ℕ) (source : Addr) (r : Request) (s : State) → AreLimits place.limits → StepLives clock (renewed_sub place clock source r s)
unfolding renewed_sub refresh end
refreshed_lives place clock source r s l = by (asks_nothing place.limits r) refl
  where
    by : (b : Bool) → asks_nothing place.limits r ≡ b → StepLives clock (if b then over (end s Timeout) else refresh s r.head.cseq (value_of r.contact) source clock (granted place.limits r))
    by true e = tt
    by false e = let g = granted_fits place.limits r l e in told_lives clock _ _ (omega arith) (omega arith)

module _ {maps : Maps} where
  pub renewed_lives : (t : Telling maps) (serial : ℕ) (source : Addr) (r : Request) (row : Row) → AreLimits t.place.limits → IsLive t.clock row → IfSome (only serial (renewed t source r) row).row (IsLive t.clock)
  unfolding renewed
  renewed_lives t serial source r row l h =
      only_keeps serial (renewed t source r) (IsLive t.clock) row h (turned_lives t source _ _ (λ s. (refl, h.timely)) (refreshed_lives t.place t.clock source r row.sub l))

  pub watcher_lives : (t : Telling maps) (name resource : List ℕ) (is_over : Bool) (row : Row) → IsLive t.clock row → IfSome (tells_watcher t name resource is_over row).row (IsLive t.clock)
  unfolding tells_watcher wherever tells_change tells stays changed end
  watcher_lives t name resource is_over row h = by (watches name resource row) is_over
    where
      step : (o : Bool) → StepLives t.clock (changed row.sub t.clock o)
      step true = tt
      step false = told_lives t.clock _ _ h.has_time h.time_fits

      by : (b o : Bool) → IfSome (if b then tells t row (changed row.sub t.clock o) else stays row).row (IsLive t.clock)
      by true o = turned_lives t row.sub.want.to (with_sub row) _ (λ s. (refl, h.timely)) (step o)
      by false o = h

  -- a row whose time may be up by now
  pub due_lives : (t : Telling maps) (row : Row) → row.sub.due ≤ t.clock + 4294967295 → AreTimely t.clock row.unanswered → IfSome (times_out t row).row (IsLive t.clock)
  unfolding times_out wherever ends tells stays goes end
  due_lives t row h timely = by (is_overdue t.clock row) (nat_le row.sub.due t.clock) refl
    where
      by : (a b : Bool) → nat_le row.sub.due t.clock ≡ b → IfSome (if a then goes else if b then ends t Timeout row else stays row).row (IsLive t.clock)
      by true b e = tt
      by false true e = turned_lives t row.sub.want.to (with_sub row) _ (λ s. (refl, timely)) tt
      by false false e = record { has_time = grind (arith, nat_tests); time_fits = h; timely = timely }

  -- it stays as it is
  pub due_in_order : (t : Telling maps) (row : Row) → AreInOrder row.unanswered → IfSome (times_out t row).row (λ after. AreInOrder after.unanswered)
  unfolding times_out wherever ends tells turned stays goes end
  due_in_order t row h = by (is_overdue t.clock row) (nat_le row.sub.due t.clock)
    where
      by : (a b : Bool) → IfSome (if a then goes else if b then ends t Timeout row else stays row).row (λ after. AreInOrder after.unanswered)
      by true b = tt
      by false true = tt
      by false false = h

  -- no row stays
  pub stops_lives : (t : Telling maps) (row : Row) → IsLive t.clock row → IfSome (stops t row).row (IsLive t.clock)
  unfolding stops ends tells end
  stops_lives t row h = turned_lives t row.sub.want.to (with_sub row) _ (λ s. (refl, h.timely)) tt

-- ---- a new row has the time that is granted

abbrev pub FirstLives : ℕ → Option Step → Type 0
FirstLives clock None = Unit {0}
FirstLives clock (Some next) = StepLives clock next

first_lives : (limits : Limits) (clock : ℕ) (usage : Usage) (want : Want) (r : Request) (kind : Birth) → AreLimits limits → kind ≡ birth_of limits r
    → FirstLives clock (first_step kind usage want clock (granted limits r))
unfolding first_step accept fetch
first_lives limits clock usage want r Watch l k = let g = granted_fits limits r l (watch_asks limits r k) in told_lives clock _ _ (omega arith) (omega arith)
first_lives limits clock usage want r Fetch l k = tt
first_lives limits clock usage want r Transfer l k = let g = granted_fits limits r l (transfer_asks limits r k) in told_lives clock _ _ (omega arith) (omega arith)
first_lives limits clock usage want r Unwatched l k = tt

module _ {maps : Maps} where
  first_row_lives : (t : Telling maps) (source : Addr) (r : Request) (n : Newborn) (next : Option Step) → FirstLives t.clock next
      → IfSome (first_turned t source r n next).row (IsLive t.clock)
  unfolding first_turned goes new_row
  first_row_lives t source r n None h = tt
  first_row_lives t source r n (Some next) h = turned_lives t source (new_row n.serial r) next (λ s. (refl, timely_none t.clock)) h

  pub born_lives : (t : Telling maps) (source : Addr) (r : Request) (n : Newborn) → AreLimits t.place.limits → n.kind ≡ birth_of t.place.limits r
      → IfSome (first_told t source r n).row (IsLive t.clock)
  unfolding first_told
  born_lives t source r n l k =
      first_row_lives t source r n (first_step n.kind (new_usage n.tag r) (new_want t.place n.tag source r) t.clock (granted t.place.limits r)) (first_lives t.place.limits t.clock _ _ r n.kind l k)
