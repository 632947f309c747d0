-- The counts of the rows of each source.
use Rattle.std.proofs.Common.{◌≡◌, ℕ, zero, suc, ◌+◌, ◌<◌, ◌≤◌, List, [], ◌∷◌, ◌++◌, Bool, true, false, cond, not, Option, Some, None, option_map, refl, sym, ap, ◌∙◌, subst, length, get_or, string_bytes, String, arith}
use Rattle.std.specs.Prelude.{nat_eq, position, count_by, sum_by, if◌then◌else◌}
use Rattle.std.specs.Str.{bytes_eq}
use Rattle.std.specs.List.{swap_remove, position_or_len}
use Rattle.std.specs.Option.{option_map_or}
use Rattle.std.specs.Map.{lookup}
use Rattle.std.proofs.lemmas.List.Sums.{sum_by-cons, sum_by_push, sum_by-swap_remove, count_by-le-length}
use Rattle.std.proofs.lemmas.Bool.{lt-ltb, eq-eqb, eqb-true}
use Rattle.std.proofs.lemmas.List.Quantifiers.{position-Some}
use Rattle.indexmap.specs.IndexMap.{swap_remove_by}
use Rattle.watchers.specs.declared.row.Watcher.{Watcher}
use Rattle.watchers.specs.Rows.{Row, found, changed, without}
use Rattle.watchers.specs.Tallies.{rows_from, tally, AreCounted}

-- one for this source
abbrev pub one : ℕ → ℕ → ℕ
one source other = if nat_eq source other then 1 else 0

abbrev is_of : ℕ → Row → ℕ
is_of k row = one row.1.source k

-- ---- one changes

pub changed_counts : (tag : List ℕ) (f : Watcher → Watcher) → ((w : Watcher) → (f w).source ≡ w.source) → (rows : List Row) (k : ℕ)
    → rows_from (changed tag f rows) k ≡ rows_from rows k
changed_counts tag f same [] k = refl
changed_counts tag f same (row ∷ rows) k = step (bytes_eq tag row.0) (changed_counts tag f same rows k) where
  step : (b : Bool) → rows_from (changed tag f rows) k ≡ rows_from rows k → rows_from (cond b ((row.0, f row.1) ∷ rows) (row ∷ changed tag f rows)) k ≡ rows_from (row ∷ rows) k
  step true rest = sum_by-cons (is_of k) (row.0, f row.1) rows ∙ ap (λ (s : ℕ). one s k + rows_from rows k) (same row.1) ∙ sym (sum_by-cons (is_of k) row rows)
  step false rest = sum_by-cons (is_of k) row (changed tag f rows) ∙ ap (λ (n : ℕ). is_of k row + n) rest ∙ sym (sum_by-cons (is_of k) row rows)

-- ---- one begins

pub begun_counts : (rows : List Row) (row : Row) (k : ℕ) → rows_from (rows ++ row ∷ []) k ≡ rows_from rows k + one row.1.source k
begun_counts rows row k = sum_by_push (is_of k) rows row

pub few : (rows : List Row) (k : ℕ) → rows_from rows k ≤ length rows
few rows k = count_by-le-length (λ (row : Row). nat_eq row.1.source k) rows

-- ---- one goes

module _ (tag : List ℕ) where
  abbrev is_row : Row → Bool
  is_row row = bytes_eq tag row.0

  found_first : (rows : List Row) (i : ℕ) (d : Row) → i < length rows → is_row (get_or rows i d) ≡ true → ((k : ℕ) → k < i → is_row (get_or rows k d) ≡ false)
      → found tag rows ≡ Some (get_or rows i d).1
  found_first [] i d low is before = absurd (omega arith)
  found_first (row ∷ rows) zero d low is before = rw is refl
  found_first (row ∷ rows) (suc i) d low is before =
      let other : is_row row ≡ false = before 0 (omega arith) in
      rw other (found_first rows i d (omega arith) is (λ k h. before (suc k) (omega arith)))

  found_place : (rows : List Row) (w : Watcher) → found tag rows ≡ Some w → position_or_len is_row rows < length rows
  found_place [] w some = absurd cc
  found_place (row ∷ rows) w some = step (bytes_eq tag row.0) (found_place rows w) some where
    step : (b : Bool) → (found tag rows ≡ Some w → position_or_len is_row rows < length rows) → cond b (Some row.1) (found tag rows) ≡ Some w
        → cond (not b) (1 + position_or_len is_row rows) 0 < suc (length rows)
    step true rest e = omega arith
    step false rest e = let low : position_or_len is_row rows < length rows = rest e in omega arith

  never : {A : Type 0} (rows : List Row) (w : Watcher) → found tag rows ≡ Some w → position is_row rows ≡ None → A
  never rows w some none =
      let at = position_or_len is_row rows in
      let P : Bool → Type 0 = λ b. cond b (Some at) None ≡ None in
      let wrong : Some at ≡ None = subst P (lt-ltb at (length rows) (found_place rows w some)) none in absurd cc

  pub gone_counts : (rows : List Row) (w : Watcher) → found tag rows ≡ Some w → (k : ℕ) → rows_from (without tag rows) k + one w.source k ≡ rows_from rows k
  gone_counts [] w some k = absurd cc
  gone_counts (row ∷ rows) w some k = step (position is_row (row ∷ rows)) refl where
    step : (o : Option ℕ) → position is_row (row ∷ rows) ≡ o
        → rows_from (option_map_or (λ i. swap_remove (row ∷ rows) i row) o (row ∷ rows)) k + one w.source k ≡ rows_from (row ∷ rows) k
    step None none = never (row ∷ rows) w some none
    step (Some i) is =
        let at = position-Some is_row (row ∷ rows) i row is in
        let same : w ≡ (get_or (row ∷ rows) i row).1 = (let e = found_first (row ∷ rows) i row at.0 at.1 at.2 in cc) in
        ap (λ (x : Watcher). rows_from (swap_remove (row ∷ rows) i row) k + one x.source k) same ∙ sum_by-swap_remove (is_of k) (row ∷ rows) i row at.0

-- ---- the counts go with the rows

one_self : (k : ℕ) → one k k ≡ 1
one_self k = ap (λ (b : Bool). if b then 1 else 0) (eq-eqb k k refl)

pub begun_counted : (rows rows' : List Row) (row : Row) (old new : List (ℕ × ℕ)) (count : ℕ) → AreCounted rows old → count ≡ tally old row.1.source
    → ((k : ℕ) → tally new k ≡ (if nat_eq row.1.source k then count + 1 else tally old k)) → rows' ≡ rows ++ row ∷ [] → AreCounted rows' new
begun_counted rows rows' row old new count counted is set made k =
    set k ∙ step (nat_eq row.1.source k) (λ e. is ∙ ap (tally old) (eqb-true row.1.source k e) ∙ counted k) refl
    ∙ sym (ap (λ (r : List Row). rows_from r k) made ∙ begun_counts rows row k) where
      step : (b : Bool) → (nat_eq row.1.source k ≡ true → count ≡ rows_from rows k) → nat_eq row.1.source k ≡ b
          → (if b then count + 1 else tally old k) ≡ rows_from rows k + (if b then 1 else 0)
      step true same e = ap (λ (n : ℕ). n + 1) (same e)
      step false same e = let was : tally old k ≡ rows_from rows k = counted k in omega arith

module _ (tag : List ℕ) (rows : List Row) (w : Watcher) (some : found tag rows ≡ Some w) where
  -- its source has one
  pub some_counted : (old : List (ℕ × ℕ)) → AreCounted rows old → 0 < tally old w.source
  some_counted old counted =
      let all = gone_counts tag rows w some w.source in let self = one_self w.source in let is = counted w.source in omega arith

  pub gone_counted : (rows' : List Row) (old new : List (ℕ × ℕ)) (count less : ℕ) → AreCounted rows old → count ≡ tally old w.source → count ≡ less + 1
      → ((k : ℕ) → tally new k ≡ (if nat_eq w.source k then less else tally old k)) → rows' ≡ without tag rows → AreCounted rows' new
  gone_counted rows' old new count less counted is one_less set gone k =
      set k ∙ step (nat_eq w.source k) (λ e. is ∙ ap (tally old) (eqb-true w.source k e) ∙ counted k) refl ∙ sym (ap (λ (r : List Row). rows_from r k) gone) where
        step : (b : Bool) → (nat_eq w.source k ≡ true → count ≡ rows_from rows k) → nat_eq w.source k ≡ b → (if b then less else tally old k) ≡ rows_from (without tag rows) k
        step true same e =
            let now : count ≡ rows_from rows k = same e in let all : rows_from (without tag rows) k + one w.source k ≡ rows_from rows k = gone_counts tag rows w some k in
            let self : one w.source k ≡ 1 = ap (λ (b : Bool). if b then 1 else 0) e in omega arith
        step false same e =
            let was : tally old k ≡ rows_from rows k = counted k in let all : rows_from (without tag rows) k + one w.source k ≡ rows_from rows k = gone_counts tag rows w some k in
            let self : one w.source k ≡ 0 = ap (λ (b : Bool). if b then 1 else 0) e in omega arith
