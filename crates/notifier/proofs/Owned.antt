-- A row keeps its serial and its tag as long as it stays, and serials rise.
use Rattle.std.proofs.Common.{◌≡◌, ℕ, ◌+◌, ◌<◌, List, [], ◌∷◌, ◌++◌, Bool, true, false, if◌then◌else◌, Option, Some, None, option_to_list, All, refl, sym, ap, subst, ◌∙◌, arith}
use Rattle.std.specs.Prelude.{IfSome}
use Rattle.std.proofs.lemmas.List.{append-nil}
use Rattle.std.proofs.lemmas.List.Elements.{All-nil, All-cons, All-head, All-tail, All-push}
use Rattle.sip_text.specs.declared.address.Addr.{Addr}
use Rattle.sip_read.specs.declared.message.Request.{Request}
use Rattle.sip_read.specs.declared.message.Response.{Response}
use Rattle.subscription.specs.declared.terms.Usage.{Usage}
use Rattle.subscription.specs.declared.terms.Want.{Want}
use Rattle.subscription.specs.declared.notify.Reason.{Reason}
use Rattle.subscription.specs.declared.notify.Reason.TheVariants.{Timeout, Deactivated}
use Rattle.subscription.specs.declared.life.Step.{Step}
use Rattle.subscription.specs.declared.life.Step.TheVariants.{Live, Over}
use Rattle.subscription.specs.State.{State}
use Rattle.subscription.specs.Table.{accept, fetch, end, over, changed, refuses}
use Rattle.package.specs.Content.{Maps, is_final}
use Rattle.notifier_model.specs.declared.place.Place.{Place}
use Rattle.notifier_model.specs.declared.row.Row.{Row}
use Rattle.notifier_model.specs.declared.birth.Birth.{Birth}
use Rattle.notifier_model.specs.declared.birth.Newborn.{Newborn}
use Rattle.notifier_model.specs.declared.birth.Birth.TheVariants.{Watch, Fetch, Transfer, Unwatched}
use Rattle.notifier_model.specs.Requests.{granted}
use Rattle.notifier_model.specs.Start.{tag_of}
use Rattle.notifier_model.specs.Rows.{Telling, Turned, wherever, has_serial, opened, with_sub, turned, tells, stays, goes, sweep, only, counted, closed, takes_answer, is_answered_by, answered, renewed, watches, tells_change, tells_watcher, is_due, is_overdue, ends, times_out, stops, usage_after}
use Rattle.notifier_model.specs.Book.{new_usage, new_want, new_row, first_step, first_turned, first_told}
use Rattle.notifier.specs.Sound.{IsOwn, AreRising}
use Rattle.notifier.proofs.Lives.{all_left, all_more}
use Rattle.notifier.proofs.Passes.{left}
use Rattle.notifier.proofs.Renewal.{tag_told, tag_renewed}

-- the row that stays has this serial and this tag
abbrev pub IsStill : ℕ → List ℕ → Row → Type 0
IsStill serial tag after = (after.serial ≡ serial) × (after.sub.usage.local_tag ≡ tag)

abbrev pub Keeps : (Row → Turned) → Type 0
Keeps rule = (row : Row) → IfSome (rule row).row (IsStill row.serial row.sub.usage.local_tag)

pub some_weaker : {A : Type 0} (P Q : A → Type 0) (o : Option A) → IfSome o P → ((a : A) → P a → Q a) → IfSome o Q
some_weaker P Q None h f = tt
some_weaker P Q (Some a) h f = f a h

-- ---- all rows

pub own_later : (place : Place) (next : ℕ) (rows : List Row) → All (IsOwn place next) rows → All (IsOwn place (next + 1)) rows
own_later place next [] own = All-nil (IsOwn place (next + 1))
own_later place next (row ∷ rows) own =
    let h = All-head (IsOwn place next) row rows own in
    All-cons (IsOwn place (next + 1)) row rows (record { given = let g : row.serial < next = h.given in omega arith; tagged = h.tagged })
    (own_later place next rows (All-tail (IsOwn place next) row rows own))

own_still : (place : Place) (next : ℕ) (row after : Row) → IsOwn place next row → IsStill row.serial row.sub.usage.local_tag after → IsOwn place next after
own_still place next row after own still = record {
  given = subst (λ n. n < next) (sym still.0) own.given;
  tagged = still.1 ∙ own.tagged ∙ ap (tag_of place) (sym still.0);
}

pub own_left : (place : Place) (next : ℕ) (rule : Row → Turned) → Keeps rule → (rows : List Row) → All (IsOwn place next) rows → All (IsOwn place next) (left rule rows)
own_left place next rule keeps rows h =
    all_left rule (IsOwn place next) (IsOwn place next) (λ row own. some_weaker (IsStill row.serial row.sub.usage.local_tag) (IsOwn place next) (rule row).row (keeps row) (λ after still. own_still place next row after own still)) rows h

rising_some : (n : ℕ) (tag : List ℕ) (o : Option Row) (rows : List Row) → IfSome o (IsStill n tag) → All (λ other. n < other.serial) rows → AreRising rows → AreRising (option_to_list o ++ rows)
rising_some n tag None rows still above rising = rising
rising_some n tag (Some row) rows still above rising = (subst (λ m. All (λ other. m < other.serial) rows) (sym still.0) above, rising)

pub rising_left : (rule : Row → Turned) → Keeps rule → (rows : List Row) → AreRising rows → AreRising (left rule rows)
unfolding sweep
rising_left rule keeps [] h = tt
rising_left rule keeps (row ∷ rows) h =
    rising_some row.serial row.sub.usage.local_tag (rule row).row (left rule rows) (keeps row)
    (all_left rule (λ other. row.serial < other.serial) (λ other. row.serial < other.serial)
    (λ other above. some_weaker (IsStill other.serial other.sub.usage.local_tag) (λ after. row.serial < after.serial) (rule other).row (keeps other) (λ after still. subst (λ m. row.serial < m) (sym still.0) above)) rows h.0)
    (rising_left rule keeps rows h.1)

rising_push : (rows : List Row) (row : Row) → AreRising rows → All (λ other. other.serial < row.serial) rows → AreRising (rows ++ row ∷ [])
rising_push [] row h below = (All-nil (λ other. row.serial < other.serial), tt)
rising_push (first ∷ rows) row h below =
    (All-push (λ other. first.serial < other.serial) rows row h.0 (All-head (λ other. other.serial < row.serial) first rows below), rising_push rows row h.1 (All-tail (λ other. other.serial < row.serial) first rows below))

pub all_below : (place : Place) (next : ℕ) (row : Row) → row.serial ≡ next → (rows : List Row) → All (IsOwn place next) rows → All (λ other. other.serial < row.serial) rows
all_below place next row e [] own = All-nil (λ other. other.serial < row.serial)
all_below place next row e (other ∷ rows) own =
    All-cons (λ o. o.serial < row.serial) other rows (subst (λ n. other.serial < n) (sym e) (All-head (IsOwn place next) other rows own).given)
    (all_below place next row e rows (All-tail (IsOwn place next) other rows own))

-- with a new row of the next serial, if one stays
pub rising_more : (place : Place) (next : ℕ) (tag : List ℕ) (rows : List Row) (o : Option Row) → AreRising rows → All (IsOwn place next) rows → IfSome o (IsStill next tag) → AreRising (rows ++ option_to_list o)
rising_more place next tag rows None h own still = subst AreRising (sym (append-nil rows)) h
rising_more place next tag rows (Some row) h own still = rising_push rows row h (all_below place next row still.0 rows own)

-- ---- the rules

wherever_keeps : (test : Row → Bool) (rule : Row → Turned) → Keeps rule → Keeps (wherever test rule)
unfolding wherever stays
wherever_keeps test rule keeps row = by (test row)
  where
    by : (b : Bool) → IfSome (if b then rule row else stays row).row (IsStill row.serial row.sub.usage.local_tag)
    by true = keeps row
    by false = (refl, refl)

only_keeps : (serial : ℕ) (rule : Row → Turned) → Keeps rule → Keeps (only serial rule)
unfolding only
only_keeps serial rule keeps = wherever_keeps (has_serial serial) rule keeps

pub counted_keeps : (serial : ℕ) (r : Request) → Keeps (only serial (counted r))
unfolding counted stays
counted_keeps serial r = only_keeps serial (counted r) (λ row. (refl, refl))

takes_answer_keeps : (response : Response) → Keeps (takes_answer response)
unfolding takes_answer closed stays goes
takes_answer_keeps response row = by (refuses response) (is_final response.status)
  where
    by : (b c : Bool) → IfSome (if b then goes else if c then stays (closed response.head.cseq row) else stays row).row (IsStill row.serial row.sub.usage.local_tag)
    by true c = tt
    by false true = (refl, refl)
    by false false = (refl, refl)

pub answered_keeps : (response : Response) → Keeps (answered response)
unfolding answered
answered_keeps response = wherever_keeps (is_answered_by response) (takes_answer response) (takes_answer_keeps response)

tag_changed : (s : State) (clock : ℕ) (is_over : Bool) → (usage_after (changed s clock is_over)).local_tag ≡ s.usage.local_tag
unfolding changed end
tag_changed s clock true = refl
tag_changed s clock false = tag_told _ _

step_keeps : (kind : Birth) (usage : Usage) (want : Want) (clock time : ℕ) → IfSome (first_step kind usage want clock time) (λ step. (usage_after step).local_tag ≡ usage.local_tag)
unfolding first_step accept fetch
step_keeps Watch usage want clock time = tag_told _ _
step_keeps Fetch usage want clock time = refl
step_keeps Transfer usage want clock time = tag_told _ _
step_keeps Unwatched usage want clock time = tt

module _ {maps : Maps} where
  turned_keeps : (t : Telling maps) (to : Addr) (row_of : State → Row) (next : Step) (serial : ℕ) (tag : List ℕ)
      → ((s : State) → ((row_of s).serial ≡ serial) × ((row_of s).sub ≡ s)) → (usage_after next).local_tag ≡ tag → IfSome (turned t to row_of next).row (IsStill serial tag)
  unfolding turned opened
  turned_keeps t to row_of (Live s notice) serial tag same own = ((same s).0, ap (λ x. x.usage.local_tag) (same s).1 ∙ own)
  turned_keeps t to row_of (Over usage want notice) serial tag same own = tt

  pub renewed_keeps : (t : Telling maps) (serial : ℕ) (source : Addr) (r : Request) → Keeps (only serial (renewed t source r))
  unfolding renewed
  renewed_keeps t serial source r =
      only_keeps serial (renewed t source r) (λ row. turned_keeps t source _ _ row.serial row.sub.usage.local_tag (λ s. (refl, refl)) (tag_renewed t.place t.clock source r row.sub))

  tells_keeps : (t : Telling maps) (row : Row) (next : Step) → (usage_after next).local_tag ≡ row.sub.usage.local_tag
      → IfSome (tells t row next).row (IsStill row.serial row.sub.usage.local_tag)
  unfolding tells
  tells_keeps t row next own = turned_keeps t row.sub.want.to (with_sub row) next row.serial row.sub.usage.local_tag (λ s. (refl, refl)) own

  pub watcher_keeps : (t : Telling maps) (name resource : List ℕ) (is_over : Bool) → Keeps (tells_watcher t name resource is_over)
  unfolding tells_watcher tells_change
  watcher_keeps t name resource is_over =
      wherever_keeps (watches name resource) (tells_change t is_over) (λ row. tells_keeps t row (changed row.sub t.clock is_over) (tag_changed row.sub t.clock is_over))

  ends_keeps : (t : Telling maps) (reason : Reason) → Keeps (ends t reason)
  unfolding ends end
  ends_keeps t reason row = tells_keeps t row (over (end row.sub reason)) refl

  pub due_keeps : (t : Telling maps) → Keeps (times_out t)
  unfolding times_out goes
  due_keeps t row = by (is_overdue t.clock row)
    where
      by : (b : Bool) → IfSome (if b then goes else wherever (is_due t.clock) (ends t Timeout) row).row (IsStill row.serial row.sub.usage.local_tag)
      by true = tt
      by false = wherever_keeps (is_due t.clock) (ends t Timeout) (ends_keeps t Timeout) row

  pub stops_keeps : (t : Telling maps) → Keeps (stops t)
  unfolding stops
  stops_keeps t = ends_keeps t Deactivated

  -- ---- a new row

  first_row_keeps : (t : Telling maps) (source : Addr) (r : Request) (n : Newborn) (next : Option Step) → IfSome next (λ step. (usage_after step).local_tag ≡ n.tag)
      → IfSome (first_turned t source r n next).row (IsStill n.serial n.tag)
  unfolding first_turned goes new_row
  first_row_keeps t source r n None own = tt
  first_row_keeps t source r n (Some next) own = turned_keeps t source (new_row n.serial r) next n.serial n.tag (λ s. (refl, refl)) own

  pub born_keeps : (t : Telling maps) (source : Addr) (r : Request) (n : Newborn) → IfSome (first_told t source r n).row (IsStill n.serial n.tag)
  unfolding first_told new_usage
  born_keeps t source r n =
      first_row_keeps t source r n (first_step n.kind (new_usage n.tag r) (new_want t.place n.tag source r) t.clock (granted t.place.limits r))
      (step_keeps n.kind (new_usage n.tag r) (new_want t.place n.tag source r) t.clock (granted t.place.limits r))

-- the new row is of its serial, and so are the others as before
pub own_more : (place : Place) (next : ℕ) (rows : List Row) (o : Option Row) → All (IsOwn place next) rows → IfSome o (IsStill next (tag_of place next)) → All (IsOwn place (next + 1)) (rows ++ option_to_list o)
own_more place next rows o own still =
    all_more (IsOwn place (next + 1)) rows o (own_later place next rows own)
    (some_weaker (IsStill next (tag_of place next)) (IsOwn place (next + 1)) o still
    (λ after is. record { given = subst (λ n. n < next + 1) (sym is.0) (omega arith); tagged = is.1 ∙ ap (tag_of place) (sym is.0) }))
