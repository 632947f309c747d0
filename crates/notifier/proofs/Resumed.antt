-- What is checked of a saved book.
use Rattle.std.proofs.Common.{◌≡◌, ◌∙◌, ℕ, ◌+◌, ◌<◌, ◌≤◌, List, [], ◌∷◌, ◌++◌, length, get_or, take, Option, Some, Err, All, inl, inr, refl, sym, ap, subst, arith, append_assoc}
use Rattle.std.specs.Prelude.{◌⊎◌}
use Rattle.std.proofs.lemmas.List.{get_or_default, length-append, take_all}
use Rattle.circular_buffer.specs.Buffer.{Buffer, buffer}
use Rattle.notifier_model.specs.Limits.{Limits}
use Rattle.notifier_model.specs.Answers.{ring_with}
use Rattle.notifier_model.specs.declared.row.Key.{Key}
use Rattle.notifier_model.specs.declared.row.Kept.{Kept}
use Rattle.notifier.specs.declared.resume.ResumeError.{ResumeError}
use Rattle.notifier.specs.declared.resume.ResumeError.TheVariants.{NoMemory, Numbers, BadRow}
use Rattle.std.proofs.lemmas.Bool.{cases_eq}
use Rattle.std.proofs.lemmas.List.Elements.{All-nil, All-cons, All-head, All-tail, All-push}
use Rattle.notifier_model.specs.declared.place.Place.{Place}
use Rattle.notifier_model.specs.declared.row.Row.{Row}
use Rattle.notifier_model.specs.declared.row.Unanswered.{Unanswered}
use Rattle.notifier.specs.declared.store.Ledger.{Ledger}
use Rattle.notifier.specs.Ledger.{IsSound}
use Rattle.notifier.specs.Sound.{AreTimely, IsLive, IsOwn, AreRising}
use Rattle.notifier.specs.Stored.{rows_of, IsIndexed}
use Rattle.notifier.specs.Resumed.{AreRows, MayFollow, IsAbove, IsRightly, NamesRow, NamesCause}

cases_below : (i n : ℕ) → i < n + 1 → (i < n) ⊎ (i ≡ n)
cases_below i n h = elim (cases_eq i n) [ inl same ↦ inr same | inr apart ↦ inl (omega (arith, h, apart)) ]

-- ---- NOTIFYs, the first of which were looked at: none is of a later moment than the latest, which is the least such moment
pub record SoFar (clock : ℕ) (notifys : List Unanswered) (index latest : ℕ) : Type 0 where
  pub order : (i j : ℕ) (d : Unanswered) → i < j → j < index → (get_or notifys i d).moment ≤ (get_or notifys j d).moment
  pub made : (i : ℕ) (d : Unanswered) → i < index → (get_or notifys i d).moment ≤ clock
  pub below : (i : ℕ) (d : Unanswered) → i < index → (get_or notifys i d).moment ≤ latest
  pub least : (bound : ℕ) → ((i : ℕ) (d : Unanswered) → i < index → (get_or notifys i d).moment ≤ bound) → latest ≤ bound

pub so_far_none : (clock : ℕ) (notifys : List Unanswered) → SoFar clock notifys 0 0
so_far_none clock notifys = record {
  order = λ i j d h k. absurd (omega (arith, k));
  made = λ i d h. absurd (omega (arith, h));
  below = λ i d h. absurd (omega (arith, h));
  least = λ bound h. omega arith;
}

module _ (clock : ℕ) (notifys : List Unanswered) (index latest : ℕ) (so_far : SoFar clock notifys index latest) (d0 : Unanswered) (within : index < length notifys) where
  moment_at : (d : Unanswered) → (get_or notifys index d).moment ≡ (get_or notifys index d0).moment
  moment_at d = ap (λ (x : Unanswered). x.moment) (get_or_default notifys index d d0 within)

  each_or_last : (P : ℕ → Type 0) → ((i : ℕ) → i < index → P i) → P index → (i : ℕ) → i < index + 1 → P i
  each_or_last P before last i h = elim (cases_below i index h) [ inl less ↦ before i less | inr same ↦ subst P (sym same) last ]

  pub so_far_more : latest ≤ (get_or notifys index d0).moment → (get_or notifys index d0).moment ≤ clock → SoFar clock notifys (index + 1) (get_or notifys index d0).moment
  so_far_more later made = record {
    order = λ i j d h k. each_or_last (λ j. i < j → (get_or notifys i d).moment ≤ (get_or notifys j d).moment) (λ j less h. so_far.order i j d h less)
        (λ h. (let a = so_far.below i d h in let b = moment_at d in omega (arith, a, b, later))) j k h;
    made = λ i d h. each_or_last (λ i. (get_or notifys i d).moment ≤ clock) (λ i less. so_far.made i d less) (let b = moment_at d in omega (arith, b, made)) i h;
    below = λ i d h. each_or_last (λ i. (get_or notifys i d).moment ≤ (get_or notifys index d0).moment) (λ i less. (let a = so_far.below i d less in omega (arith, a, later))) (let b = moment_at d in omega (arith, b)) i h;
    least = λ bound h. h index d0 (omega arith);
  }

  pub not_in_order : (get_or notifys index d0).moment < latest → AreTimely clock notifys → ⊥
  not_in_order early timely =
      let a = so_far.least (get_or notifys index d0).moment (λ i d h. (let x = timely.in_order i index d h within in let b = moment_at d in omega (arith, x, b))) in
      omega (arith, a, early)

  pub not_made : clock < (get_or notifys index d0).moment → AreTimely clock notifys → ⊥
  not_made late timely = let x = timely.made index d0 within in omega (arith, x, late)

pub so_far_all : (clock : ℕ) (notifys : List Unanswered) (index latest : ℕ) → length notifys ≤ index → SoFar clock notifys index latest → AreTimely clock notifys
so_far_all clock notifys index latest all so_far = record {
  made = λ i d h. so_far.made i d (omega (arith, h, all));
  in_order = λ i j d h k. so_far.order i j d h (omega (arith, k, all));
}

-- ---- rows

pub above_none : IsAbove 0 []
above_none = record { above = All-nil (λ r. r.serial < 0); least = λ bound h. omega arith }

pub above_more : (rows : List Row) (row : Row) → All (λ r. r.serial < row.serial) rows → IsAbove (row.serial + 1) (rows ++ row ∷ [])
above_more rows row above = record {
  above = All-push (λ r. r.serial < row.serial + 1) rows row (λ k d within. (let a = above k d within in omega (arith, a))) (omega arith);
  least = λ bound h. (let a = last bound rows row h in omega (arith, a));
} where
  last : (bound : ℕ) (rows : List Row) (row : Row) → All (λ r. r.serial < bound) (rows ++ row ∷ []) → row.serial < bound
  last bound [] row h = All-head (λ r. r.serial < bound) row [] h
  last bound (x ∷ xs) row h = last bound xs row (All-tail (λ r. r.serial < bound) x (xs ++ row ∷ []) h)

middle : (P : Row → Type 0) (rows : List Row) (row : Row) (rest : List Row) → All P (rows ++ row ∷ rest) → P row
middle P [] row rest h = All-head P row rest h
middle P (x ∷ xs) row rest h = middle P xs row rest (All-tail P x (xs ++ row ∷ rest) h)

-- the serials of a list that rises up to a row are below its serial
pub rising_below : (rows : List Row) (row : Row) (rest : List Row) → AreRising (rows ++ row ∷ rest) → All (λ r. r.serial < row.serial) rows
rising_below [] row rest rise = All-nil (λ r. r.serial < row.serial)
rising_below (x ∷ xs) row rest rise = All-cons (λ r. r.serial < row.serial) x xs (middle (λ r. x.serial < r.serial) xs row rest rise.0) (rising_below xs row rest rise.1)

pub follows : (place : Place) (clock next : ℕ) (rows : List Row) (row : Row) (rest : List Row) → AreRows place clock next (rows ++ row ∷ rest) → MayFollow place clock next rows row
follows place clock next rows row rest are = record {
  live = middle (IsLive clock) rows row rest are.live;
  own = middle (IsOwn place next) rows row rest are.own;
  above = rising_below rows row rest are.rise;
}

-- a row behind those below it
pub rising_push : (rows : List Row) (row : Row) → All (λ r. r.serial < row.serial) rows → AreRising rows → AreRising (rows ++ row ∷ [])
rising_push [] row above rise = (All-nil (λ r. row.serial < r.serial), tt)
rising_push (x ∷ xs) row above rise = (
  All-push (λ r. x.serial < r.serial) xs row rise.0 (All-head (λ r. r.serial < row.serial) x xs above),
  rising_push xs row (All-tail (λ r. r.serial < row.serial) x xs above) rise.1,
)

pub sound_more : {P : Type 0} (place : Place) (a b : Ledger P) (row : Row) → IsSound place a → MayFollow place a.clock a.next (rows_of a.rows) row
    → rows_of b.rows ≡ rows_of a.rows ++ row ∷ [] → IsIndexed b.rows → (b.clock ≡ a.clock) × (b.next ≡ a.next) × (b.ring ≡ a.ring) → IsSound place b
sound_more place a b row s may rows indexed same = record {
  clock_fits = rw same.0 s.clock_fits;
  next_begins = rw same.1 s.next_begins;
  next_fits = rw same.1 s.next_fits;
  rows_indexed = indexed;
  rows_live = rw (same.0, rows) (All-push (IsLive a.clock) (rows_of a.rows) row s.rows_live may.live);
  rows_own = rw (same.1, rows) (All-push (IsOwn place a.next) (rows_of a.rows) row s.rows_own may.own);
  rows_rise = rw rows (rising_push (rows_of a.rows) row may.above s.rows_rise);
  ring_fits = ap (λ r. r.capacity) same.2 ∙ s.ring_fits;
}

pub above_low : (low serial : ℕ) (rows : List Row) → All (λ r. r.serial < low) rows → low ≤ serial → All (λ r. r.serial < serial) rows
above_low low serial rows above le = λ k d within. (let a = above k d within in omega (arith, a, le))

-- ---- kept answers

pub kept_push : (limits : Limits) (ring new : Buffer Kept) (left items all : List Kept) (answer : Kept) (key : Key) → key ≡ answer.key → ring.capacity ≡ limits.kept
    → items ≡ left ++ answer ∷ [] → items ++ ring.items ≡ all → length all ≤ limits.kept
    → new ≡ buffer (ring_with limits ring.items (Some key) answer.bytes) ring.capacity → (left ++ new.items ≡ all) × (new.capacity ≡ limits.kept)
unfolding ring_with
kept_push limits ring new left items all answer key named room split whole fits made =
    let kept : List Kept = answer ∷ ring.items in
    let same : record { key = key; bytes = answer.bytes } ∷ ring.items ≡ kept = ap (λ (k : Key). record { key = k; bytes = answer.bytes } ∷ ring.items) named in
    let parts : left ++ kept ≡ all = sym (append_assoc left (answer ∷ []) ring.items) ∙ ap (λ (l : List Kept). l ++ ring.items) (sym split) ∙ whole in
    let short : length kept ≤ limits.kept = (let a = length-append left kept in let b = ap length parts in omega (arith, a, b, fits)) in
    let all_kept : new.items ≡ kept = ap (λ (b : Buffer Kept). b.items) made ∙ ap (take limits.kept) same ∙ take_all limits.kept kept short in
    (ap (λ (l : List Kept). left ++ l) all_kept ∙ parts, ap (λ (b : Buffer Kept). b.capacity) made ∙ room)

-- ---- refusals

pub rightly : (X Y : Type 0) (e : ResumeError) (p q : Type 0) → (q → p) → IsRightly {X = X} (Err e) p → IsRightly {X = Y} (Err e) q
rightly X Y NoMemory p q f h = tt
rightly X Y Numbers p q f h = λ a. h (f a)
rightly X Y (BadRow serial) p q f h = λ a. h (f a)

pub follows_whole : (place : Place) (clock next : ℕ) (rows done left : List Row) (row : Row) (rest : List Row) → done ++ left ≡ rows → left ≡ row ∷ rest → AreRows place clock next rows → MayFollow place clock next done row
follows_whole place clock next rows done left row rest whole step are =
    follows place clock next done row rest (subst (AreRows place clock next) (sym whole ∙ ap (λ (l : List Row). done ++ l) step) are)

-- a row that may not stand behind those before it, as the refusal says, is the first such row
pub first_bad : (X Y : Type 0) (e : ResumeError) (place : Place) (clock next : ℕ) (rows done left : List Row) (row : Row) (rest : List Row) → done ++ left ≡ rows → left ≡ row ∷ rest
    → AreRows place clock next done → NamesRow {X = X} (Err e) row → IsRightly {X = X} (Err e) (MayFollow place clock next done row) → NamesCause {X = Y} (Err e) ⊥ place clock next rows
first_bad X Y NoMemory place clock next rows done left row rest whole step fit named bad = tt
first_bad X Y Numbers place clock next rows done left row rest whole step fit named bad = named
first_bad X Y (BadRow serial) place clock next rows done left row rest whole step fit named bad = record {
  before = done;
  row = row;
  rest = rest;
  whole = sym whole ∙ ap (λ (l : List Row). done ++ l) step;
  named = named;
  fit = fit;
  bad = bad;
}

-- what names a row names it, whatever is said of numbers
pub names_row : (X Y : Type 0) (e : ResumeError) (p : Type 0) (place : Place) (clock next : ℕ) (rows : List Row) → NamesCause {X = X} (Err e) ⊥ place clock next rows → NamesCause {X = Y} (Err e) p place clock next rows
names_row X Y NoMemory p place clock next rows h = tt
names_row X Y Numbers p place clock next rows h = absurd h
names_row X Y (BadRow serial) p place clock next rows h = h
