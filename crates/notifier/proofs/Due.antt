-- Which timers are up.
use Rattle.std.proofs.Common.{◌≡◌, ◌∙◌, ◌⊎◌, sym, ap, refl, inl, inr, ℕ, ◌+◌, ◌≤◌, Bool, true, false, not, ◌&&◌, ◌||◌, List, [], ◌∷◌, map, arith, Option, Some, None, is_some, ◌==◌, nat_lt, eq-eqb}
use Rattle.std.proofs.lemmas.Bool.Decides.{nat_tests}
use Rattle.std.proofs.lemmas.Bool.{cases_eq}
use Rattle.std.specs.Map.{keys_of, lookup}
use Rattle.std.specs.Option.{option_and_then}
use Rattle.std.specs.List.{AllByRecursion, filter, list_any}
use Rattle.std.specs.List.Sorted.{IsStrictlySortedBy}
use Rattle.std.specs.Ordering.{nat_cmp, ordering_then, is_le}
use Rattle.std.specs.declared.cmp.Ordering.TheVariants.{Less}
use Rattle.std.specs.declared.ops.Bound.TheVariants.{Unbounded, Excluded}
use Rattle.std.specs.BTreeMap.{is_at}
use Rattle.std.specs.BTreeMap.Range.{range_contains}
use Rattle.notifier.specs.Among.{has, RiseFrom}
use Rattle.notifier.specs.Stored.{by_time}
use Rattle.notifier.proofs.Rising.{less, neq-eqb}
use Rattle.notifier.proofs.Times.{number_at, by_time-at}

all_zero : (ks : List ℕ) → AllByRecursion (λ k. 0 ≤ k) ks
all_zero [] = tt
all_zero (k ∷ ks) = (omega arith, all_zero ks)

all_above : (low : ℕ) (ks : List ℕ) → AllByRecursion (λ y. nat_cmp low y ≡ Less) ks → AllByRecursion (λ k. low + 1 ≤ k) ks
all_above low [] all = tt
all_above low (k ∷ ks) all = (less low k all.0, all_above low ks all.1)

rise_from : (low : ℕ) (ks : List ℕ) → IsStrictlySortedBy nat_cmp ks → AllByRecursion (λ k. low ≤ k) ks → RiseFrom low ks
unfolding IsStrictlySortedBy
rise_from low [] s all = tt
rise_from low (k ∷ ks) s all = (all.0, rise_from (k + 1) ks s.1 (all_above k ks s.0))

pub rise_keys : (ks : List ℕ) → IsStrictlySortedBy nat_cmp ks → RiseFrom 0 ks
rise_keys ks s = rise_from 0 ks s (all_zero ks)

flip_test : (a b : ℕ) → (a == b) ≡ (b == a)
flip_test a b = elim (cases_eq a b) [
  | inl e ↦ eq-eqb a b e ∙ sym (eq-eqb b a (sym e))
  | inr d ↦ neq-eqb a b d ∙ sym (neq-eqb b a (λ q. d (sym q)))
]

pub has_any : (s : ℕ) (ks : List ℕ) → has s ks ≡ list_any (is_at (nat_cmp s)) ks
has_any s [] = refl
has_any s (k ∷ ks) = ap (λ b. b || has s ks) (flip_test k s ∙ sym (number_at s k)) ∙ ap (λ b. is_at (nat_cmp s) k || b) (has_any s ks)

not_upto : (a b s : ℕ) → not (is_le (ordering_then (nat_cmp a b) (nat_cmp 0 s))) ≡ nat_lt b a
not_upto a b s = grind (arith, nat_tests)

or_right : (a b : Bool) → b ≡ true → (a || b) ≡ true
or_right true b e = refl
or_right false b e = e

or_left : (a b : Bool) → a ≡ true → (a || b) ≡ true
or_left a b e = rw e refl

lt_true : (a b : ℕ) → nat_lt a (b + 1) ≡ true → a ≤ b
lt_true a b e = grind (arith, nat_tests)

true_lt : (a b : ℕ) → a ≤ b → nat_lt a (b + 1) ≡ true
true_lt a b e = grind (arith, nat_tests)

eq_true : (a b : ℕ) → (a == b) ≡ true → a ≡ b
eq_true a b e = grind (arith, nat_tests)

tested : (b : Bool) → (b ≡ true) ⊎ (b ≡ false)
tested true = inl refl
tested false = inr refl

split_or : (a b : Bool) → (a || b) ≡ true → (a ≡ true) ⊎ (b ≡ true)
split_or true b e = inl refl
split_or false b e = inr e

split_and : (a b : Bool) → (a && b) ≡ true → (a ≡ true) × (b ≡ true)
split_and true b e = (refl, e)
split_and false b e = absurd (cc)

module _ (clock : ℕ) where
  abbrev pub up : ℕ × ℕ → Bool
  up = range_contains by_time Unbounded (Excluded (clock + 1, 0))

  up_test : (t : ℕ × ℕ) → up t ≡ nat_lt t.0 (clock + 1)
  up_test t = not_upto (clock + 1) t.0 t.1

  abbrev pub ups : List (ℕ × ℕ) → List ℕ
  ups keys = map (λ t. t.1) (filter up keys)

  module _ (s : ℕ) where
    abbrev Timed : List (ℕ × ℕ) → Type 0
    Timed keys = (due : ℕ) × ((due ≤ clock) × (list_any (is_at (by_time (due, s))) keys ≡ true))

    pub from_has : (keys : List (ℕ × ℕ)) → has s (ups keys) ≡ true → Timed keys
    from_has [] h = absurd (cc)
    from_has (t ∷ ts) h = elim (tested (up t)) [
      | inl u ↦ elim (split_or (t.1 == s) (has s (ups ts)) (rw u at h)) [
        | inl e ↦ (t.0, (lt_true t.0 clock (sym (up_test t) ∙ u), or_left _ _ (by_time-at t.0 s t.0 t.1 ∙ rw (eq-eqb t.0 t.0 refl, eq-eqb s t.1 (sym (eq_true t.1 s e))) refl)))
        | inr k ↦ later t ts (from_has ts k)
      ]
      | inr u ↦ later t ts (from_has ts (rw u at h))
    ]
      where
        later : (t : ℕ × ℕ) (ts : List (ℕ × ℕ)) → Timed ts → Timed (t ∷ ts)
        later t ts x = (x.0, (x.1.0, or_right _ _ x.1.1))

    pub to_has : (keys : List (ℕ × ℕ)) → Timed keys → has s (ups keys) ≡ true
    to_has [] x = absurd (cc (x.1.1))
    to_has (t ∷ ts) x = elim (split_or (is_at (by_time (x.0, s)) t) (list_any (is_at (by_time (x.0, s))) ts) x.1.1) [
      | inl e ↦
          let both = split_and (x.0 == t.0) (s == t.1) (sym (by_time-at x.0 s t.0 t.1) ∙ e) in
          let same = eq_true x.0 t.0 both.0 in
          let u : up t ≡ true = up_test t ∙ true_lt t.0 clock (omega (arith, x.1.0)) in
          rw u (or_left (t.1 == s) (has s (ups ts)) (eq-eqb t.1 s (sym (eq_true s t.1 both.1))))
      | inr k ↦ put t ts (to_has ts (x.0, (x.1.0, k)))
    ]
      where
        put : (t : ℕ × ℕ) (ts : List (ℕ × ℕ)) → has s (ups ts) ≡ true → has s (ups (t ∷ ts)) ≡ true
        put t ts h = elim (tested (up t)) [
          | inl u ↦ rw u (or_right (t.1 == s) (has s (ups ts)) h)
          | inr u ↦ rw u h
        ]

-- a key that is found is among the keys
lookup_any : (p : ℕ → Bool) (es : List (ℕ × ℕ)) (k : ℕ) → lookup p es ≡ Some k → list_any p (keys_of es) ≡ true
lookup_any p [] k e = absurd (cc)
lookup_any p (x ∷ es) k e = elim (tested (p x.0)) [
  | inl h ↦ or_left (p x.0) (list_any p (keys_of es)) h
  | inr h ↦ or_right (p x.0) (list_any p (keys_of es)) (lookup_any p es k (rw h at e))
]

pub has_key : (s : ℕ) (es : List (ℕ × ℕ)) (k : ℕ) → lookup (is_at (nat_cmp s)) es ≡ Some k → has s (keys_of es) ≡ true
has_key s es k e = has_any s (keys_of es) ∙ lookup_any (is_at (nat_cmp s)) es k e

pub some_there : {A B : Type 0} (f : A → Option B) (o : Option A) → is_some (option_and_then f o) ≡ true → (a : A) × (o ≡ Some a)
some_there f None h = absurd (cc)
some_there f (Some a) h = (a, refl)
