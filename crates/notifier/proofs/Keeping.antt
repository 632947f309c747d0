-- What each cause leaves of a row that stays: its serial, what it watches, and that it can be told again.
use Rattle.std.proofs.Common.{◌≡◌, ◌∙◌, ℕ, Bool, true, false, if◌then◌else◌, ◌==◌, List, Option, Some, None, All, IfSome, refl, ap}
use Rattle.sip_text.specs.declared.address.Addr.{Addr}
use Rattle.sip_read.specs.declared.message.Request.{Request}
use Rattle.sip_read.specs.declared.message.Response.{Response}
use Rattle.subscription.specs.declared.terms.Want.{Want}
use Rattle.subscription.specs.declared.notify.Notice.{Notice}
use Rattle.subscription.specs.declared.notify.Reason.{Reason}
use Rattle.subscription.specs.declared.notify.Reason.TheVariants.{Timeout, Deactivated}
use Rattle.subscription.specs.declared.life.Step.{Step}
use Rattle.subscription.specs.declared.life.Step.TheVariants.{Live, Over}
use Rattle.subscription.specs.State.{State}
use Rattle.subscription.specs.Table.{told, refresh, end, over, changed, refuses}
use Rattle.package.specs.Content.{Maps, is_final}
use Rattle.notifier_model.specs.declared.place.Place.{Place}
use Rattle.notifier_model.specs.declared.row.Row.{Row}
use Rattle.notifier.specs.declared.sweep.cause.Cause.{Cause}
use Rattle.notifier.specs.declared.sweep.cause.Cause.TheVariants.{Response as Answer, Refused, Renewal, Change, Time, Stop}
use Rattle.notifier.specs.Causes.{rule_of, CanTell}
use Rattle.notifier_model.specs.Fields.{value_of}
use Rattle.notifier_model.specs.Requests.{asks_nothing, granted}
use Rattle.notifier_model.specs.Rows.{Telling, Turned, wherever, has_serial, opened, with_sub, turned, tells, stays, goes, only, counted, closed, takes_answer, is_answered_by, answered, renewed, renewed_sub, watches, tells_change, tells_watcher, is_due, is_overdue, ends, times_out, stops}
use Rattle.notifier.proofs.Lives.{all_left, only_keeps, watcher_lives, due_in_order}
use Rattle.notifier.proofs.Owned.{Keeps, IsStill, some_weaker, answered_keeps, counted_keeps, renewed_keeps, watcher_keeps, due_keeps, stops_keeps}
use Rattle.notifier.proofs.Passes.{left, KeepsSerials}
use Rattle.notifier.specs.Watchers.{topic}

-- ---- what a row watches

abbrev pub KeepsTopic : (Row → Turned) → Type 0
KeepsTopic rule = (row : Row) → IfSome (rule row).row (λ after. topic after.sub.want ≡ topic row.sub.want)

wherever_same : (test : Row → Bool) (rule : Row → Turned) → KeepsTopic rule → KeepsTopic (wherever test rule)
unfolding wherever stays
wherever_same test rule same row = by (test row)
  where
    by : (b : Bool) → IfSome (if b then rule row else stays row).row (λ after. topic after.sub.want ≡ topic row.sub.want)
    by true = same row
    by false = refl

only_same : (serial : ℕ) (rule : Row → Turned) → KeepsTopic rule → KeepsTopic (only serial rule)
unfolding only
only_same serial rule same = wherever_same (has_serial serial) rule same

counted_same : (serial : ℕ) (r : Request) → KeepsTopic (only serial (counted r))
unfolding counted stays
counted_same serial r = only_same serial (counted r) (λ row. refl)

takes_same : (response : Response) → KeepsTopic (takes_answer response)
unfolding takes_answer closed stays goes
takes_same response row = by (refuses response) (is_final response.status)
  where
    by : (b c : Bool) → IfSome (if b then goes else if c then stays (closed response.head.cseq row) else stays row).row (λ after. topic after.sub.want ≡ topic row.sub.want)
    by true c = tt
    by false true = refl
    by false false = refl

answered_same : (response : Response) → KeepsTopic (answered response)
unfolding answered
answered_same response = wherever_same (is_answered_by response) (takes_answer response) (takes_same response)

-- a step that goes on watches this resource of this package
abbrev pub StepOf : List ℕ × List ℕ → Step → Type 0
StepOf watch (Live s notice) = topic s.want ≡ watch
StepOf watch (Over usage asked notice) = Unit {0}

told_same : (s : State) (time : ℕ) → StepOf (topic s.want) (told s time)
unfolding told
told_same s time = by (s.count == s.want.max_cseq) _ _
  where
    by : (c : Bool) (m n : Notice) → StepOf (topic s.want) (if c then Over s.usage s.want m else Live s n)
    by true m n = tt
    by false m n = refl

renewed_sub_same : (place : Place) (clock : ℕ) (source : Addr) (r : Request) (s : State) → StepOf (topic s.want) (renewed_sub place clock source r s)
unfolding renewed_sub refresh end
renewed_sub_same place clock source r s = by (asks_nothing place.limits r)
  where
    by : (b : Bool) → StepOf (topic s.want) (if b then over (end s Timeout) else refresh s r.head.cseq (value_of r.contact) source clock (granted place.limits r))
    by true = tt
    by false = told_same _ _

changed_same : (s : State) (clock : ℕ) (is_over : Bool) → StepOf (topic s.want) (changed s clock is_over)
unfolding changed end
changed_same s clock true = tt
changed_same s clock false = told_same _ _

module _ {maps : Maps} (t : Telling maps) where
  turned_same : (to : Addr) (row_of : State → Row) (next : Step) (watch : List ℕ × List ℕ) → ((s : State) → (row_of s).sub ≡ s) → StepOf watch next
      → IfSome (turned t to row_of next).row (λ after. topic after.sub.want ≡ watch)
  unfolding turned opened
  turned_same to row_of (Live s notice) watch same h = ap (λ (x : State). topic x.want) (same s) ∙ h
  turned_same to row_of (Over usage asked notice) watch same h = tt

  renewed_same : (serial : ℕ) (source : Addr) (r : Request) → KeepsTopic (only serial (renewed t source r))
  unfolding renewed
  renewed_same serial source r =
      only_same serial (renewed t source r) (λ row. turned_same source _ _ (topic row.sub.want) (λ s. refl) (renewed_sub_same t.place t.clock source r row.sub))

  tells_same : (row : Row) (next : Step) → StepOf (topic row.sub.want) next → IfSome (tells t row next).row (λ after. topic after.sub.want ≡ topic row.sub.want)
  unfolding tells
  tells_same row next h = turned_same row.sub.want.to (with_sub row) next (topic row.sub.want) (λ s. refl) h

  watcher_same : (name resource : List ℕ) (is_over : Bool) → KeepsTopic (tells_watcher t name resource is_over)
  unfolding tells_watcher tells_change
  watcher_same name resource is_over =
      wherever_same (watches name resource) (tells_change t is_over) (λ row. tells_same row (changed row.sub t.clock is_over) (changed_same row.sub t.clock is_over))

  ends_same : (reason : Reason) → KeepsTopic (ends t reason)
  unfolding ends end
  ends_same reason row = tells_same row (over (end row.sub reason)) tt

  times_out_same : KeepsTopic (times_out t)
  unfolding times_out goes
  times_out_same row = by (is_overdue t.clock row)
    where
      by : (b : Bool) → IfSome (if b then goes else wherever (is_due t.clock) (ends t Timeout) row).row (λ after. topic after.sub.want ≡ topic row.sub.want)
      by true = tt
      by false = wherever_same (is_due t.clock) (ends t Timeout) (ends_same Timeout) row

  stops_same : KeepsTopic (stops t)
  unfolding stops
  stops_same = ends_same Deactivated

  -- ---- every cause

  pub cause_same : (cause : Cause) → KeepsTopic (rule_of t cause)
  cause_same (Answer response) = answered_same response.now
  cause_same (Refused serial r) = counted_same serial r.now
  cause_same (Renewal serial came) = renewed_same serial came.now.source came.now.request.now
  cause_same (Change name resource is_over) = watcher_same name.now resource.now is_over
  cause_same Time = times_out_same
  cause_same Stop = stops_same

  cause_keeps : (cause : Cause) → Keeps (rule_of t cause)
  cause_keeps (Answer response) = answered_keeps response.now
  cause_keeps (Refused serial r) = counted_keeps serial r.now
  cause_keeps (Renewal serial came) = renewed_keeps t serial came.now.source came.now.request.now
  cause_keeps (Change name resource is_over) = watcher_keeps t name.now resource.now is_over
  cause_keeps Time = due_keeps t
  cause_keeps Stop = stops_keeps t

  pub cause_serials : (cause : Cause) → KeepsSerials (rule_of t cause)
  cause_serials cause row =
      some_weaker (IsStill row.serial row.sub.usage.local_tag) (λ after. after.serial ≡ row.serial) (rule_of t cause row).row (cause_keeps cause row) (λ after still. still.0)

  any_row : {A : Type 0} → A → (o : Option Row) → IfSome o (λ row. A)
  any_row a None = tt
  any_row a (Some row) = a

  still_tellable : (cause : Cause) (row : Row) → CanTell t.place t.clock cause row → IfSome (rule_of t cause row).row (CanTell t.place t.clock cause)
  still_tellable (Answer response) row h = any_row tt (answered response.now row).row
  still_tellable (Refused serial r) row h = any_row tt (only serial (counted r.now) row).row
  still_tellable (Renewal serial came) row h = any_row h (only serial (renewed t came.now.source came.now.request.now) row).row
  still_tellable (Change name resource is_over) row h = watcher_lives t name.now resource.now is_over row h
  still_tellable Time row h = due_in_order t row h
  still_tellable Stop row h = any_row tt (stops t row).row

  -- after one serial was told, the others can be told
  pub tellable_left : (cause : Cause) (serial : ℕ) (rows : List Row) → All (CanTell t.place t.clock cause) rows → All (CanTell t.place t.clock cause) (left (only serial (rule_of t cause)) rows)
  tellable_left cause serial rows h =
      all_left (only serial (rule_of t cause)) (CanTell t.place t.clock cause) (CanTell t.place t.clock cause)
      (λ row can. only_keeps serial (rule_of t cause) (CanTell t.place t.clock cause) row can (still_tellable cause row can)) rows h
