-- Lists of rows by rising serial are known by the row that each serial leads to.
use Rattle.std.proofs.Common.{◌≡◌, ◌≢◌, ◌∙◌, sym, ap, refl, inl, inr, ℕ, ◌+◌, ◌<◌, ◌≤◌, Bool, true, false, cond, List, [], ◌∷◌, Option, Some, None, arith, filter_map, ◌==◌, nat_lt, eq-eqb}
use Rattle.std.proofs.lemmas.Bool.Decides.{nat_tests}
use Rattle.std.proofs.lemmas.Bool.{cases_eq}
use Rattle.std.specs.List.{AllByRecursion, cons_option}
use Rattle.std.specs.List.Sorted.{IsStrictlySortedBy}
use Rattle.std.specs.Map.{keys_of, lookup}
use Rattle.std.specs.Option.{IsSomeAnd, option_and_then}
use Rattle.std.specs.Ordering.{nat_cmp}
use Rattle.std.specs.declared.cmp.Ordering.TheVariants.{Less}
use Rattle.std.specs.BTreeMap.{is_at}
use Rattle.notifier_model.specs.declared.row.Row.{Row}
use Rattle.notifier.specs.Stored.{with_serial}

-- serials rise, from low on
abbrev pub Rises : ℕ → List Row → Type 0
Rises low [] = Unit {0}
Rises low (row ∷ rows) = (low ≤ row.serial) × Rises (row.serial + 1) rows

-- a list of one row and others, read at a serial
pub with_serial-same : (serial : ℕ) (row : Row) (rows : List Row) → row.serial ≡ serial → with_serial serial (row ∷ rows) ≡ Some row
with_serial-same serial row rows e = grind (arith, nat_tests)

pub with_serial-other : (serial : ℕ) (row : Row) (rows : List Row) → row.serial ≢ serial → with_serial serial (row ∷ rows) ≡ with_serial serial rows
with_serial-other serial row rows e = grind (arith, nat_tests)

pub with_serial-below : (low serial : ℕ) (rows : List Row) → Rises low rows → serial < low → with_serial serial rows ≡ None
with_serial-below low serial [] rises below = refl
with_serial-below low serial (row ∷ rows) rises below =
    let apart : row.serial ≢ serial = omega arith in
    with_serial-other serial row rows apart ∙ with_serial-below (row.serial + 1) serial rows rises.1 (omega arith)

module _ (row : Row) (rows : List Row) (other : Row) (others : List Row) where
  heads : (low : ℕ) → Rises low (row ∷ rows) → Rises low (other ∷ others) → ((s : ℕ) → with_serial s (row ∷ rows) ≡ with_serial s (other ∷ others)) → row.serial ≡ other.serial → (row ≡ other) × ((s : ℕ) → with_serial s rows ≡ with_serial s others)
  heads low a b h e = (
    (let here = h row.serial in
        let first = with_serial-same row.serial row rows refl in
        let second = with_serial-same row.serial other others (sym e) in
        cc),
    λ s. elim (cases_eq row.serial s) [
      | inl same ↦
          let x : s < row.serial + 1 = omega arith in
          let y : s < other.serial + 1 = omega arith in
          with_serial-below (row.serial + 1) s rows a.1 x ∙ sym (with_serial-below (other.serial + 1) s others b.1 y)
      | inr apart ↦
          let x : other.serial ≢ s = λ q. apart (e ∙ q) in
          sym (with_serial-other s row rows apart) ∙ h s ∙ with_serial-other s other others x
    ],
  )

  not_first : (low : ℕ) → Rises low (other ∷ others) → with_serial row.serial (row ∷ rows) ≡ with_serial row.serial (other ∷ others) → row.serial < other.serial → ⊥
  not_first low b h less =
      let first = with_serial-same row.serial row rows refl in
      let x : other.serial ≢ row.serial = omega arith in
      let y : row.serial < other.serial + 1 = omega arith in
      let second = with_serial-other row.serial other others x ∙ with_serial-below (other.serial + 1) row.serial others b.1 y in
      cc

-- two rising lists that lead each serial to the same row are one list
pub rising_same : (low : ℕ) (rows others : List Row) → Rises low rows → Rises low others → ((s : ℕ) → with_serial s rows ≡ with_serial s others) → rows ≡ others
rising_same low [] [] a b h = refl
rising_same low [] (other ∷ others) a b h = let x = h other.serial in let y = with_serial-same other.serial other others refl in absurd (cc)
rising_same low (row ∷ rows) [] a b h = let x = h row.serial in let y = with_serial-same row.serial row rows refl in absurd (cc)
rising_same low (row ∷ rows) (other ∷ others) a b h =
    elim (cases_eq row.serial other.serial) [
      | inl e ↦
          let both = heads row rows other others low a b h e in
          let rest = rising_same (row.serial + 1) rows others a.1 (rw e b.1) both.1 in
          let same = both.0 in
          cc
      | inr apart ↦ absurd (not_apart low row rows other others a b h apart)
    ]
  where
    not_apart : (low : ℕ) (row : Row) (rows : List Row) (other : Row) (others : List Row) → Rises low (row ∷ rows) → Rises low (other ∷ others) → ((s : ℕ) → with_serial s (row ∷ rows) ≡ with_serial s (other ∷ others)) → row.serial ≢ other.serial → ⊥
    not_apart low row rows other others a b h apart =
        let p : row.serial < other.serial → ⊥ = not_first row rows other others low b (h row.serial) in
        let q : other.serial < row.serial → ⊥ = not_first other others row rows low a (sym (h other.serial)) in
        omega arith

-- how numbers compare
pub not_at : (a b : ℕ) → a ≢ b → is_at (nat_cmp a) b ≡ false
not_at a b h = grind (arith, nat_tests)

pub at-same : (a b : ℕ) → b ≡ a → is_at (nat_cmp a) b ≡ true
at-same a b h = grind (arith, nat_tests)

pub less : (a b : ℕ) → nat_cmp a b ≡ Less → a + 1 ≤ b
less a b h = by_test (nat_lt a b) refl
  where
    by_test : (t : Bool) → nat_lt a b ≡ t → a + 1 ≤ b
    by_test t e = grind (arith, nat_tests)

pub neq-eqb : (a b : ℕ) → a ≢ b → (a == b) ≡ false
neq-eqb a b h = grind (arith, nat_tests)

-- ---- the rows to which the entries of an index lead
module _ (slot : ℕ → Option Row) where
  abbrev pub led : List (ℕ × ℕ) → List Row
  led entries = filter_map (λ e. slot e.1) entries

  -- keys rise, from low on, and each leads to a row with it as its serial
  abbrev pub Leads : ℕ → List (ℕ × ℕ) → Type 0
  Leads low [] = Unit {0}
  Leads low (e ∷ es) = (low ≤ e.0) × IsSomeAnd (slot e.1) (λ row. row.serial ≡ e.0) × Leads (e.0 + 1) es

  rises_more : (low : ℕ) (key : ℕ) (rows : List Row) (o : Option Row) → low ≤ key → IsSomeAnd o (λ row. row.serial ≡ key) → Rises (key + 1) rows → Rises low (cons_option o rows)
  rises_more low key rows None l h rises = absurd h
  rises_more low key rows (Some row) l h rises = (omega arith, rw h rises)

  pub rises_led : (low : ℕ) (es : List (ℕ × ℕ)) → Leads low es → Rises low (led es)
  rises_led low [] leads = tt
  rises_led low (e ∷ es) leads = rises_more low e.0 (led es) (slot e.1) leads.0 leads.1 (rises_led (e.0 + 1) es leads.2)

  with_more : (serial key : ℕ) (rows : List Row) (o : Option Row) → IsSomeAnd o (λ row. row.serial ≡ key) → with_serial serial (cons_option o rows) ≡ cond (key == serial) o (with_serial serial rows)
  with_more serial key rows None h = absurd h
  with_more serial key rows (Some row) h = grind (arith, nat_tests)

  pub with_serial-led : (low serial : ℕ) (es : List (ℕ × ℕ)) → Leads low es → with_serial serial (led es) ≡ option_and_then slot (lookup (is_at (nat_cmp serial)) es)
  with_serial-led low serial [] leads = refl
  with_serial-led low serial (e ∷ es) leads =
      with_more serial e.0 (led es) (slot e.1) leads.1
      ∙ ap (λ r. cond (e.0 == serial) (slot e.1) r) (with_serial-led (e.0 + 1) serial es leads.2)
      ∙ found serial e.0 e.1 (lookup (is_at (nat_cmp serial)) es)
    where
      found : (serial key at : ℕ) (o : Option ℕ) → cond (key == serial) (slot at) (option_and_then slot o) ≡ option_and_then slot (cond (is_at (nat_cmp serial) key) (Some at) o)
      found serial key at o = elim (cases_eq key serial) [
        | inl e ↦ rw (eq-eqb key serial e, at-same serial key e) refl
        | inr d ↦ rw (neq-eqb key serial d, not_at serial key (λ q. d (sym q))) refl
      ]

  pub leads_from : (low : ℕ) (es : List (ℕ × ℕ)) → IsStrictlySortedBy nat_cmp (keys_of es) → AllByRecursion (λ k. low ≤ k) (keys_of es) → ((s k : ℕ) → lookup (is_at (nat_cmp s)) es ≡ Some k → IsSomeAnd (slot k) (λ row. row.serial ≡ s)) → Leads low es
  unfolding IsStrictlySortedBy
  leads_from low [] sorted all held = tt
  leads_from low (e ∷ es) sorted all held = (
    all.0,
    held e.0 e.1 (rw (at-same e.0 e.0 refl) refl),
    leads_from (e.0 + 1) es sorted.1 (above e.0 (keys_of es) sorted.0)
        (λ s k found. held s k (later s k (above e.0 (keys_of es) sorted.0) found)),
  )
    where
      above : (low : ℕ) (ks : List ℕ) → AllByRecursion (λ y. nat_cmp low y ≡ Less) ks → AllByRecursion (λ k. low + 1 ≤ k) ks
      above low [] all = tt
      above low (k ∷ ks) all = (less low k all.0, above low ks all.1)

      past : (s key : ℕ) (es : List (ℕ × ℕ)) → s ≡ key → AllByRecursion (λ k. key + 1 ≤ k) (keys_of es) → lookup (is_at (nat_cmp s)) es ≡ None
      past s key [] e all = refl
      past s key (x ∷ xs) e all = rw (not_at s x.0 (omega arith)) (past s key xs e all.1)

      later : (s k : ℕ) → AllByRecursion (λ k. e.0 + 1 ≤ k) (keys_of es) → lookup (is_at (nat_cmp s)) es ≡ Some k → lookup (is_at (nat_cmp s)) (e ∷ es) ≡ Some k
      later s k all found = elim (cases_eq s e.0) [
        | inl q ↦ let n = past s e.0 es q all in absurd (cc)
        | inr d ↦ rw (not_at s e.0 d) found
      ]
