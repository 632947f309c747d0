-- The part of a list after the last, or the first, element that passes a test, by the list's first element.
use Rattle.std.proofs.Common.{◌≡◌, ℕ, suc, ◌+◌, ◌-◌, ◌<◌, List, [], ◌∷◌, length, drop, Bool, true, false, cond, not, ◌||◌, refl, ap, ◌∙◌, arith, eqb}
use Rattle.std.specs.List.{list_any, position_or_len, after_first, after_last}
use Rattle.std.proofs.lemmas.List.{length-reverse}
use Rattle.std.proofs.lemmas.List.Folds.{position_or_len_push}
use Rattle.std.proofs.lemmas.Bool.Decides.{nat_tests}
use mathlib.Core.List.{reverse, reverse-cons}

-- the distance of the last element that passes from the end, by the elements before
pushed_none : (l n : ℕ) (b : Bool) → l ≡ n → b ≡ false → cond (eqb l n) (n + cond b 0 1) l ≡ suc n
pushed_none l n b e p = grind (arith, nat_tests)

pushed_here : (l n : ℕ) (b : Bool) → l ≡ n → b ≡ true → cond (eqb l n) (n + cond b 0 1) l ≡ n
pushed_here l n b e p = grind (arith, nat_tests)

pushed_some : (l n : ℕ) (b : Bool) → l < n → cond (eqb l n) (n + cond b 0 1) l ≡ l
pushed_some l n b h = grind (arith, nat_tests)

pub or_left : (a b : Bool) → (a || b) ≡ false → a ≡ false
or_left true b e = e
or_left false b e = refl

pub or_right : (a b : Bool) → (a || b) ≡ false → b ≡ false
or_right true b e = absurd (cc)
or_right false b e = e

module _ {X : Type 0} (p : X → Bool) where
  from_end : List X → ℕ
  from_end xs = position_or_len p (reverse xs)

  from_end-cons : (x : X) (xs : List X) → from_end (x ∷ xs) ≡ cond (eqb (from_end xs) (length xs)) (length xs + cond (p x) 0 1) (from_end xs)
  unfolding from_end
  from_end-cons x xs =
      ap (position_or_len p) (reverse-cons x xs) ∙ position_or_len_push p (reverse xs) x
      ∙ ap (λ n. cond (eqb (position_or_len p (reverse xs)) n) (n + cond (p x) 0 1) (position_or_len p (reverse xs))) (length-reverse xs)

  none_passes : (xs : List X) → list_any p xs ≡ false → from_end xs ≡ length xs
  unfolding from_end
  none_passes [] e = refl
  none_passes (x ∷ xs) e =
      from_end-cons x xs
      ∙ pushed_none (from_end xs) (length xs) (p x) (none_passes xs (or_right (p x) (list_any p xs) e)) (or_left (p x) (list_any p xs) e)

  some_passes : (xs : List X) → list_any p xs ≡ true → from_end xs < length xs
  some_passes [] e = absurd (cc)
  some_passes (x ∷ xs) e = by (list_any p xs) refl (p x) refl e (some_passes xs)
    where
      by : (any : Bool) → list_any p xs ≡ any → (b : Bool) → p x ≡ b → (b || any) ≡ true → (any ≡ true → from_end xs < length xs) → from_end (x ∷ xs) < length (x ∷ xs)
      by true q b r e more = let h : from_end xs < length xs = more refl in let f = from_end-cons x xs ∙ pushed_some (from_end xs) (length xs) (p x) h in omega arith
      by false q true r e more = let f = from_end-cons x xs ∙ pushed_here (from_end xs) (length xs) (p x) (none_passes xs q) r in omega arith
      by false q false r e more = absurd (cc)

  -- after the last one
  pub after_last-none : (xs : List X) → list_any p xs ≡ false → after_last p xs ≡ xs
  unfolding from_end
  after_last-none xs e =
      let f : from_end xs ≡ length xs = none_passes xs e in
      let g : length xs - from_end xs ≡ 0 = omega arith in
      ap (λ n. drop n xs) g

  pub after_last-cons_some : (x : X) (xs : List X) → list_any p xs ≡ true → after_last p (x ∷ xs) ≡ after_last p xs
  unfolding from_end
  after_last-cons_some x xs e =
      let h : from_end xs < length xs = some_passes xs e in
      let f : from_end (x ∷ xs) ≡ from_end xs = from_end-cons x xs ∙ pushed_some (from_end xs) (length xs) (p x) h in
      let g : suc (length xs) - from_end (x ∷ xs) ≡ suc (length xs - from_end xs) = omega arith in
      ap (λ n. drop n (x ∷ xs)) g

  pub after_last-cons_here : (x : X) (xs : List X) → list_any p xs ≡ false → p x ≡ true → after_last p (x ∷ xs) ≡ xs
  unfolding from_end
  after_last-cons_here x xs e t =
      let f : from_end (x ∷ xs) ≡ length xs = from_end-cons x xs ∙ pushed_here (from_end xs) (length xs) (p x) (none_passes xs e) t in
      let g : suc (length xs) - from_end (x ∷ xs) ≡ suc 0 = omega arith in
      ap (λ n. drop n (x ∷ xs)) g

  -- after the first one
  pub after_first-here : (x : X) (xs : List X) → p x ≡ true → after_first p (x ∷ xs) ≡ xs
  after_first-here x xs t = ap (λ b. drop (cond (not b) (1 + position_or_len p xs) 0 + 1) (x ∷ xs)) t

  pub after_first-later : (x : X) (xs : List X) → p x ≡ false → after_first p (x ∷ xs) ≡ after_first p xs
  after_first-later x xs t =
      let g : 1 + position_or_len p xs + 1 ≡ suc (position_or_len p xs + 1) = omega arith in
      ap (λ b. drop (cond (not b) (1 + position_or_len p xs) 0 + 1) (x ∷ xs)) t ∙ ap (λ n. drop n (x ∷ xs)) g
