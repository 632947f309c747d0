-- The timers of rows, as pairs of a due moment and a serial.
use Rattle.std.proofs.Common.{◌≡◌, ◌∙◌, sym, ap, refl, inl, inr, ℕ, Bool, true, false, cond, ◌&&◌, ◌==◌, eq-eqb}
use Rattle.std.proofs.lemmas.Bool.{cases_eq}
use Rattle.std.specs.Ordering.{nat_cmp, ordering_then, is_eq}
use Rattle.std.specs.declared.cmp.Ordering.{Ordering}
use Rattle.std.specs.declared.cmp.Ordering.TheVariants.{Less, Equal, Greater}
use Rattle.std.specs.BTreeMap.{is_at}
use Rattle.notifier.specs.Stored.{by_time}
use Rattle.notifier.proofs.Rising.{not_at, at-same, neq-eqb}

is_eq-then : (o p : Ordering) → is_eq (ordering_then o p) ≡ (is_eq o && is_eq p)
is_eq-then Less p = refl
is_eq-then Equal p = refl
is_eq-then Greater p = refl

pub number_at : (a b : ℕ) → is_eq (nat_cmp a b) ≡ (a == b)
number_at a b = elim (cases_eq a b) [
  | inl e ↦ at-same a b (sym e) ∙ sym (eq-eqb a b e)
  | inr d ↦ not_at a b d ∙ sym (neq-eqb a b d)
]

pub by_time-at : (due serial d s : ℕ) → is_at (by_time (due, serial)) (d, s) ≡ ((due == d) && (serial == s))
by_time-at due serial d s = is_eq-then (nat_cmp due d) (nat_cmp serial s) ∙ ap (λ x. x && is_eq (nat_cmp serial s)) (number_at due d) ∙ ap (λ x. (due == d) && x) (number_at serial s)

pub and-true : (b : Bool) → (b && true) ≡ b
and-true true = refl
and-true false = refl

pub and-false : (b : Bool) → (b && false) ≡ false
and-false true = refl
and-false false = refl

-- a timer that is put
pub started : (due serial d s : ℕ) (was now : Bool) → now ≡ cond (is_at (by_time (due, serial)) (d, s)) true was → (serial ≡ s → was ≡ false) → now ≡ cond (serial == s) (due == d) was
started due serial d s was now e h = e ∙ ap (λ x. cond x true was) (by_time-at due serial d s) ∙ elim (cases_eq serial s) [
  | inl q ↦ rw (eq-eqb serial s q, and-true (due == d), h q) (at_last (due == d))
  | inr n ↦ rw (neq-eqb serial s n, and-false (due == d)) refl
]
  where
    at_last : (b : Bool) → cond b true false ≡ b
    at_last true = refl
    at_last false = refl

-- a timer that goes
pub stopped : (before serial d s : ℕ) (was now : Bool) → now ≡ cond (is_at (by_time (before, serial)) (d, s)) false was → (serial ≡ s → was ≡ (before == d)) → now ≡ cond (serial == s) false was
stopped before serial d s was now e h = e ∙ ap (λ x. cond x false was) (by_time-at before serial d s) ∙ elim (cases_eq serial s) [
  | inl q ↦ rw (eq-eqb serial s q, and-true (before == d), h q) (at_last (before == d))
  | inr n ↦ rw (neq-eqb serial s n, and-false (before == d)) refl
]
  where
    at_last : (b : Bool) → cond b false b ≡ false
    at_last true = refl
    at_last false = refl

-- a timer that moves
pub moved : (before due serial d s : ℕ) (was mid now : Bool) → mid ≡ cond (is_at (by_time (before, serial)) (d, s)) false was → (serial ≡ s → was ≡ (before == d)) → now ≡ cond (is_at (by_time (due, serial)) (d, s)) true mid → now ≡ cond (serial == s) (due == d) was
moved before due serial d s was mid now a h b =
    let gone = stopped before serial d s was mid a h in
    started due serial d s mid now b (λ q. gone ∙ rw (eq-eqb serial s q) refl) ∙ elim (cases_eq serial s) [
      | inl q ↦ rw (eq-eqb serial s q) refl
      | inr n ↦ rw (neq-eqb serial s n) (gone ∙ rw (neq-eqb serial s n) refl)
    ]

-- a choice at a number
pub number_cond : {X : Type 0} (a b : ℕ) (x y z : X) → z ≡ cond (is_at (nat_cmp a) b) x y → z ≡ cond (a == b) x y
number_cond a b x y z e = e ∙ ap (λ t. cond t x y) (number_at a b)

-- a serial that watches no more, or newly
pub unwatched : (b : Bool) (serial s : ℕ) (was now : Bool) → now ≡ cond (b && (serial == s)) false was → (serial ≡ s → was ≡ b) → now ≡ cond (serial == s) false was
unwatched b serial s was now e h = e ∙ elim (cases_eq serial s) [
  | inl q ↦ rw (eq-eqb serial s q, and-true b, h q) (at_last b)
  | inr n ↦ rw (neq-eqb serial s n, and-false b) refl
]
  where
    at_last : (b : Bool) → cond b false b ≡ false
    at_last true = refl
    at_last false = refl

pub newly_watched : (b : Bool) (serial s : ℕ) (was now : Bool) → now ≡ cond (b && (serial == s)) true was → (serial ≡ s → was ≡ false) → now ≡ cond (serial == s) b was
newly_watched b serial s was now e h = e ∙ elim (cases_eq serial s) [
  | inl q ↦ rw (eq-eqb serial s q, and-true b, h q) (at_last b)
  | inr n ↦ rw (neq-eqb serial s n, and-false b) refl
]
  where
    at_last : (b : Bool) → cond b true false ≡ b
    at_last true = refl
    at_last false = refl
