-- The stored rows, and what a step at one serial makes of them.
use Rattle.std.proofs.Common.{◌≡◌, ◌≢◌, ◌∙◌, sym, ap, refl, inl, inr, ℕ, ◌+◌, ◌<◌, ◌≤◌, false, length, subst, cond, List, [], ◌∷◌, ◌++◌, Option, Some, None, arith, ◌==◌, eq-eqb, All, IfSome, option_map, ◌&&◌}
use Rattle.std.proofs.lemmas.Bool.{cases_eq}
use Rattle.std.proofs.lemmas.List.Elements.{All-head, All-tail}
use Rattle.std.specs.List.{AllByRecursion, cons_option}
use Rattle.std.specs.Map.{keys_of}
use Rattle.std.specs.Option.{IsSomeAnd, option_and_then}
use Rattle.std.specs.Ordering.{nat_cmp}
use Rattle.std.specs.BTreeMap as tree
use Rattle.std.specs.BTreeSet as sorted
use Rattle.slab.specs.Slab as slab
use Rattle.notifier_model.specs.declared.row.Row.{Row}
use Rattle.notifier.specs.declared.store.rows.Rows.{Rows}
use Rattle.notifier.specs.Stored.{rows_of, row_at, with_serial, by_time, alarm_of, is_timed_at, is_of, IsIndexed, Turns}
use Rattle.std.specs.declared.result.Result.{Result}
use Rattle.std.specs.declared.result.Result.TheVariants.{Ok, Err}
use Rattle.std.specs.Result.{OnOk, IfOk, is_ok}
use Rattle.notifier.proofs.Times.{number_cond, unwatched}
use Rattle.notifier.specs.Watchers.{is_watched, NoSetIsEmpty, topic, is_topic, is_about}
use Rattle.notifier.proofs.Rising.{Rises, Leads, led, rises_led, with_serial-led, leads_from, rising_same, neq-eqb, with_serial-same, with_serial-other}

-- ---- the list that is stored

all_zero : (ks : List ℕ) → AllByRecursion (λ k. 0 ≤ k) ks
all_zero [] = tt
all_zero (k ∷ ks) = (omega arith, all_zero ks)

leads : (r : Rows) → IsIndexed r → Leads (slab.get r.slab) 0 r.order.entries
leads r i = leads_from (slab.get r.slab) 0 r.order.entries i.ordered (all_zero (keys_of r.order.entries)) i.held

pub rows_rise : (r : Rows) → IsIndexed r → Rises 0 (rows_of r)
rows_rise r i = rises_led (slab.get r.slab) 0 r.order.entries (leads r i)

pub with_serial-rows : (r : Rows) (serial : ℕ) → IsIndexed r → with_serial serial (rows_of r) ≡ row_at r serial
with_serial-rows r serial i = with_serial-led (slab.get r.slab) 0 serial r.order.entries (leads r i)

-- the stored rows are this list
pub rows_are : (r : Rows) (rows : List Row) → IsIndexed r → Rises 0 rows → ((s : ℕ) → row_at r s ≡ with_serial s rows) → rows_of r ≡ rows
rows_are r rows i rises h = rising_same 0 (rows_of r) rows (rows_rise r i) rises (λ s. with_serial-rows r s i ∙ h s)

-- ---- a step at one serial

-- what the indexes have to show
pub record Moves (old new : Rows) (serial key : ℕ) (row : Option Row) : Type 0 where
  pub ordered : tree.IsOrdered nat_cmp new.order
  pub order : (s : ℕ) → tree.get nat_cmp new.order s ≡ cond (serial == s) (option_map (λ _. key) row) (tree.get nat_cmp old.order s)
  pub free : (s : ℕ) → s ≢ serial → tree.get nat_cmp old.order s ≢ Some key
  pub here : IfSome row (λ r. slab.get new.slab key ≡ Some r)
  pub own : IfSome row (λ r. r.serial ≡ serial)
  pub others : (k : ℕ) → k ≢ key → slab.get new.slab k ≡ slab.get old.slab k
  pub timers : (due s : ℕ) → sorted.contains by_time new.timers (due, s) ≡ cond (serial == s) (is_timed_at due row) (sorted.contains by_time old.timers (due, s))
  pub watchers : (p q : List ℕ) (s : ℕ) → is_watched new.watchers p q s ≡ cond (serial == s) (is_of p q row) (is_watched old.watchers p q s)
  pub none_left : NoSetIsEmpty new.watchers

module _ (old new : Rows) (serial key : ℕ) (row : Option Row) (i : IsIndexed old) (m : Moves old new serial key row) where
  other_at : (s : ℕ) → s ≢ serial → (o : Option ℕ) → tree.get nat_cmp old.order s ≡ o → option_and_then (slab.get new.slab) o ≡ option_and_then (slab.get old.slab) o
  other_at s d None e = refl
  other_at s d (Some k) e = m.others k (λ q. m.free s d (e ∙ ap Some q))

  here_at : (o : Option Row) → row ≡ o → option_and_then (slab.get new.slab) (option_map (λ _. key) o) ≡ o
  here_at None e = refl
  here_at (Some r) e = rw e at m.here

  pub turns : Turns old new serial row
  turns = record {
    at = λ s. elim (cases_eq serial s) [
      | inl e ↦ ap (option_and_then (slab.get new.slab)) (m.order s) ∙ rw (eq-eqb serial s e) (here_at row refl)
      | inr d ↦
          let x : s ≢ serial = λ q. d (sym q) in
          ap (option_and_then (slab.get new.slab)) (m.order s) ∙ rw (neq-eqb serial s d) (other_at s x (tree.get nat_cmp old.order s) refl)
    ];
  }

  held_here : (o : Option Row) → row ≡ o → (k : ℕ) → option_map (λ _. key) o ≡ Some k → IsSomeAnd (slab.get new.slab k) (λ r. r.serial ≡ serial)
  held_here None e k h = absurd (cc)
  held_here (Some r) e k h =
      let at : slab.get new.slab key ≡ Some r = rw e at m.here in
      let same : key ≡ k = cc in
      let own : r.serial ≡ serial = rw e at m.own in
      rw (← same, at) own

  held_there : (s k : ℕ) → s ≢ serial → tree.get nat_cmp old.order s ≡ Some k → IsSomeAnd (slab.get new.slab k) (λ r. r.serial ≡ s)
  held_there s k d h =
      let x : slab.get new.slab k ≡ slab.get old.slab k = m.others k (λ q. m.free s d (h ∙ ap Some q)) in
      rw x (i.held s k h)

  pub indexed : IsIndexed new
  indexed = record {
    ordered = m.ordered;
    held = λ s k h. elim (cases_eq serial s) [
      | inl e ↦
          let x : option_map (λ _. key) row ≡ Some k = rw (m.order s, eq-eqb serial s e) at h in
          rw (← e) (held_here row refl k x)
      | inr d ↦
          let x : tree.get nat_cmp old.order s ≡ Some k = rw (m.order s, neq-eqb serial s d) at h in
          held_there s k (λ q. d (sym q)) x
    ];
    timed = λ due s. m.timers due s ∙ elim (cases_eq serial s) [
      | inl e ↦ rw (turns.at s, eq-eqb serial s e) refl
      | inr d ↦ rw (turns.at s, neq-eqb serial s d) (i.timed due s)
    ];
    watching = λ p q s. m.watchers p q s ∙ elim (cases_eq serial s) [
      | inl e ↦ rw (turns.at s, eq-eqb serial s e) refl
      | inr d ↦ rw (turns.at s, neq-eqb serial s d) (i.watching p q s)
    ];
    none_left = m.none_left;
  }

-- ---- a new row

pub none_with : (serial : ℕ) (rows : List Row) → All (λ r. r.serial < serial) rows → with_serial serial rows ≡ None
none_with serial [] all = refl
none_with serial (row ∷ rows) all =
    let low = All-head (λ r. r.serial < serial) row rows all in
    let apart : row.serial ≢ serial = omega arith in
    with_serial-other serial row rows apart ∙ none_with serial rows (All-tail (λ r. r.serial < serial) row rows all)

rises-push : (low : ℕ) (rows : List Row) (row : Row) → Rises low rows → low ≤ row.serial → All (λ r. r.serial < row.serial) rows → Rises low (rows ++ row ∷ [])
rises-push low [] row rises l all = (l, tt)
rises-push low (r ∷ rows) row rises l all =
    let below = All-head (λ x. x.serial < row.serial) r rows all in
    (rises.0, rises-push (r.serial + 1) rows row rises.1 (omega arith) (All-tail (λ x. x.serial < row.serial) r rows all))

with_serial-push : (s : ℕ) (rows : List Row) (row : Row) → All (λ r. r.serial < row.serial) rows → with_serial s (rows ++ row ∷ []) ≡ cond (row.serial == s) (Some row) (with_serial s rows)
with_serial-push s [] row all = refl
with_serial-push s (r ∷ rows) row all =
    let below = All-head (λ x. x.serial < row.serial) r rows all in
    let rest = with_serial-push s rows row (All-tail (λ x. x.serial < row.serial) r rows all) in
    elim (cases_eq r.serial s) [
      | inl e ↦
          let n : row.serial ≢ s = omega arith in
          with_serial-same s r (rows ++ row ∷ []) e ∙ sym (rw (neq-eqb row.serial s n) (with_serial-same s r rows e))
      | inr d ↦ with_serial-other s r (rows ++ row ∷ []) d ∙ rest ∙ ap (cond (row.serial == s) (Some row)) (sym (with_serial-other s r rows d))
    ]

module _ (old new : Rows) (row : Row) (i : IsIndexed old) (all : All (λ r. r.serial < row.serial) (rows_of old)) where
  pub vacant_at : row_at old row.serial ≡ None
  vacant_at = sym (with_serial-rows old row.serial i) ∙ none_with row.serial (rows_of old) all

  pub pushed : IsIndexed new → Turns old new row.serial (Some row) → rows_of new ≡ rows_of old ++ row ∷ []
  pushed j t =
      rows_are new (rows_of old ++ row ∷ []) j (rises-push 0 (rows_of old) row (rows_rise old i) (omega arith) all)
      (λ s. t.at s ∙ ap (cond (row.serial == s) (Some row)) (sym (with_serial-rows old s i)) ∙ sym (with_serial-push s (rows_of old) row all))

-- ---- a row that is told

module _ (old new : Rows) (serial key : ℕ) (row : Row) (i : IsIndexed old) (found : tree.get nat_cmp old.order serial ≡ Some key) (stood : slab.get old.slab key ≡ Some row) where
  pub own_serial : row.serial ≡ serial
  own_serial = rw stood at (i.held serial key found)

  pub row_there : row_at old serial ≡ Some row
  row_there = rw (found, stood) refl

  free_by : (s : ℕ) → s ≢ serial → tree.get nat_cmp old.order s ≢ Some key
  free_by s d h =
      let other : row.serial ≡ s = rw stood at (i.held s key h) in
      d (sym other ∙ own_serial)

  same_order : (s : ℕ) → tree.get nat_cmp old.order s ≡ cond (serial == s) (Some key) (tree.get nat_cmp old.order s)
  same_order s = elim (cases_eq serial s) [
    | inl e ↦ rw (eq-eqb serial s e) (ap (tree.get nat_cmp old.order) (sym e) ∙ found)
    | inr d ↦ rw (neq-eqb serial s d) refl
  ]

  pub own_watch : (p q : List ℕ) → is_watched old.watchers p q serial ≡ is_about row.sub.want p q
  own_watch p q = i.watching p q serial ∙ ap (is_of p q) row_there

  same_watch : (p q : List ℕ) (s : ℕ) → is_watched old.watchers p q s ≡ cond (serial == s) (is_about row.sub.want p q) (is_watched old.watchers p q s)
  same_watch p q s = elim (cases_eq serial s) [
    | inl e ↦ rw (eq-eqb serial s e) (ap (is_watched old.watchers p q) (sym e) ∙ own_watch p q)
    | inr d ↦ rw (neq-eqb serial s d) refl
  ]

  pub stay_moves : (mid : slab.Slab Row) (due vacant : ℕ) (next : Row) → new.order ≡ old.order → slab.Updates old.slab mid key None → vacant ≡ key → slab.Updates mid new.slab vacant (Some next) → next.serial ≡ row.serial → due ≡ alarm_of next
      → ((d s : ℕ) → sorted.contains by_time new.timers (d, s) ≡ cond (serial == s) (due == d) (sorted.contains by_time old.timers (d, s)))
      → topic next.sub.want ≡ topic row.sub.want → new.watchers ≡ old.watchers
      → Moves old new serial key (Some next)
  stay_moves mid due vacant next o a v b n e t w x = record {
    ordered = rw o i.ordered;
    order = λ s. rw o (same_order s);
    free = free_by;
    here = rw (← v) b.changed;
    own = n ∙ own_serial;
    others = λ k d. b.others k (λ q. d (q ∙ v)) ∙ a.others k d;
    timers = λ d s. t d s ∙ ap (λ x. cond (serial == s) (x == d) (sorted.contains by_time old.timers (d, s))) e;
    watchers = λ p q s. ap (λ m. is_watched m p q s) x ∙ same_watch p q s ∙ ap (λ t. cond (serial == s) (is_topic t p q) (is_watched old.watchers p q s)) (sym w);
    none_left = rw x i.none_left;
  }

  pub go_moves : tree.IsOrdered nat_cmp new.order → ((s : ℕ) → tree.get nat_cmp new.order s ≡ cond (tree.is_at (nat_cmp serial) s) None (tree.get nat_cmp old.order s)) → slab.Updates old.slab new.slab key None
      → ((d s : ℕ) → sorted.contains by_time new.timers (d, s) ≡ cond (serial == s) false (sorted.contains by_time old.timers (d, s)))
      → ((p q : List ℕ) (s : ℕ) → is_watched new.watchers p q s ≡ cond (is_about row.sub.want p q && (serial == s)) false (is_watched old.watchers p q s))
      → (NoSetIsEmpty old.watchers → NoSetIsEmpty new.watchers)
      → Moves old new serial key None
  go_moves w o a t x n = record {
    ordered = w;
    order = λ s. number_cond serial s None (tree.get nat_cmp old.order s) (tree.get nat_cmp new.order s) (o s);
    free = free_by;
    here = tt;
    own = tt;
    others = a.others;
    timers = t;
    watchers = λ p q s. unwatched (is_about row.sub.want p q) serial s (is_watched old.watchers p q s) (is_watched new.watchers p q s) (x p q s) (λ e. ap (is_watched old.watchers p q) (sym e) ∙ own_watch p q);
    none_left = n i.none_left;
  }

-- what is told of a row that is there
pub turns_by : (old new : Rows) (serial : ℕ) (f : Row → Option Row) (row : Row) (next : Option Row) → row_at old serial ≡ Some row → next ≡ f row → Turns old new serial next → Turns old new serial (option_and_then f (row_at old serial))
turns_by old new serial f row next h n t = rw (h, ← n) t

pub on_ok : {T E P Q : Type 0} (r : Result T E) → OnOk r P → (P → Q) → OnOk r Q
on_ok (Ok x) h f = f h
on_ok (Err e) h f = tt

pub on_ok_both : {T E P Q R : Type 0} (r : Result T E) → OnOk r P → OnOk r Q → (P → Q → R) → OnOk r R
on_ok_both (Ok x) h k f = f h k
on_ok_both (Err e) h k f = tt

pub if_ok : {T E : Type 0} {P Q : T → Type 0} (r : Result T E) → IfOk r P → ((x : T) → P x → Q x) → IfOk r Q
if_ok (Ok x) h f = f x h
if_ok (Err e) h f = tt

-- what holds of all rows holds of the one at a serial
pub some_at : (P : Row → Type 0) (r : Rows) (serial : ℕ) → IsIndexed r → All P (rows_of r) → IfSome (row_at r serial) P
some_at P r serial i all = subst (λ o. IfSome o P) (with_serial-rows r serial i) (some_with (rows_of r) all)
  where
    some_with : (rows : List Row) → All P rows → IfSome (with_serial serial rows) P
    some_with [] all = tt
    some_with (row ∷ rows) all = elim (cases_eq row.serial serial) [
      | inl e ↦ subst (λ o. IfSome o P) (sym (with_serial-same serial row rows e)) (All-head P row rows all)
      | inr d ↦ subst (λ o. IfSome o P) (sym (with_serial-other serial row rows d)) (some_with rows (All-tail P row rows all))
    ]

-- how many there are
pub rows_length : (r : Rows) → IsIndexed r → length (rows_of r) ≡ length r.order.entries
rows_length r i = led_length 0 r.order.entries (leads r i)
  where
    one_more : (key : ℕ) (rows : List Row) (o : Option Row) → IsSomeAnd o (λ row. row.serial ≡ key) → length (cons_option o rows) ≡ length rows + 1
    one_more key rows None h = absurd h
    one_more key rows (Some row) h = omega arith

    led_length : (low : ℕ) (es : List (ℕ × ℕ)) → Leads (slab.get r.slab) low es → length (led (slab.get r.slab) es) ≡ length es
    led_length low [] l = refl
    led_length low (e ∷ es) l =
        let rest = led_length (e.0 + 1) es l.2 in
        let here = one_more e.0 (led (slab.get r.slab) es) (slab.get r.slab e.1) l.1 in
        omega arith

pub on_ok_all : {T E P : Type 0} (r : Result T E) → P → OnOk r P
on_ok_all (Ok x) h = h
on_ok_all (Err e) h = tt

-- nothing is said of an error
pub not_ok : {A E : Type 0} (P : Type 0) (r : Result A E) → is_ok r ≡ false → OnOk r P
not_ok P (Ok a) e = absurd cc
not_ok P (Err x) e = tt
