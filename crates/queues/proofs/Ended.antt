-- How the number of senders that have ended grows.
use Rattle.std.proofs.Common.{◌≡◌, ◌≢◌, ◌≤◌, ◌<◌, ◌+◌, ◌||◌, ℕ, zero, suc, Bool, true, false, if◌then◌else◌, List, [], ◌∷◌, ◌++◌, ap, sym, ◌∙◌, refl, subst, ⊎_elim, arith}
use Rattle.std.proofs.lemmas.List.{append-nil}
use Rattle.std.proofs.lemmas.List.Folds.{list_any-append}
use Rattle.std.proofs.lemmas.Bool.Decides.{eqb_tells}
use Rattle.std.proofs.lemmas.Bool.{true_from_ne_false}
use Rattle.queues.specs.declared.items.Item.{Item}
use Rattle.queues.specs.Items.{items_of, has_end, is_end}
use Rattle.queues.specs.Ended.{count_ended, AllEnded}
use Rattle.queues.proofs.ItemLists.{items_of-append, items_of_same, items_of_other}

or_false : (b : Bool) → (b || false) ≡ b
or_false true = refl
or_false false = refl

-- 1 for a sender that has ended
abbrev one_if : Bool → ℕ
one_if b = if b then 1 else 0

module _ {T : Type 0} where
  -- an item of another sender changes nothing of p
  end_other : (p : ℕ) (xs : List (Item T)) (x : Item T) → x.from ≢ p
      → has_end (items_of p (xs ++ x ∷ [])) ≡ has_end (items_of p xs)
  end_other p xs x ne = ap has_end (items_of-append p xs (x ∷ []) ∙ ap (λ l. items_of p xs ++ l) (items_of_other p x ne) ∙ append-nil (items_of p xs))

  end_here : (p : ℕ) (xs : List (Item T)) (x : Item T) → x.from ≡ p
      → has_end (items_of p (xs ++ x ∷ [])) ≡ (has_end (items_of p xs) || has_end (x ∷ []))
  end_here p xs x e = ap has_end (items_of-append p xs (x ∷ []) ∙ ap (λ l. items_of p xs ++ l) (items_of_same p x e)) ∙ list_any-append is_end (items_of p xs) (x ∷ [])

  -- a value ends no sender
  pub ended_value : (n : ℕ) (xs : List (Item T)) (x : Item T) → is_end x ≡ false → count_ended n (xs ++ x ∷ []) ≡ count_ended n xs
  ended_value zero xs x no_end = refl
  ended_value (suc n) xs x no_end =
      let here : has_end (items_of n (xs ++ x ∷ [])) ≡ has_end (items_of n xs) = ⊎_elim
      (λ t. end_here n xs x t.1 ∙ ap (λ b. has_end (items_of n xs) || b) (rw no_end refl) ∙ or_false (has_end (items_of n xs)))
      (λ t. end_other n xs x t.1) (eqb_tells x.from n) in
      let others = ended_value n xs x no_end in
      rw (here, others) refl

  -- the end mark of a later sender changes nothing of the first n
  ended_later : (n : ℕ) (xs : List (Item T)) (x : Item T) → n ≤ x.from → count_ended n (xs ++ x ∷ []) ≡ count_ended n xs
  ended_later zero xs x le = refl
  ended_later (suc n) xs x le =
      let here = end_other n xs x (λ e. absurd (omega arith)) in
      let others = ended_later n xs x (omega arith) in
      rw (here, others) refl

  -- an end mark is one more
  pub ended_more : (n : ℕ) (xs : List (Item T)) (x : Item T) → is_end x ≡ true → x.from < n
      → has_end (items_of x.from xs) ≡ false → count_ended n (xs ++ x ∷ []) ≡ count_ended n xs + 1
  ended_more zero xs x an_end lt none = absurd (omega arith)
  ended_more (suc n) xs x an_end lt none = ⊎_elim
      (λ t. let e : x.from ≡ n = t.1 in
      let was : has_end (items_of n xs) ≡ false = subst (λ p. has_end (items_of p xs) ≡ false) e none in
      let here : has_end (items_of n (xs ++ x ∷ [])) ≡ true = end_here n xs x e ∙ rw (was, an_end) refl in
      let others = ended_later n xs x (omega arith) in
      rw (here, others, was) (omega arith))
      (λ t. let ne = t.1 in
      let here = end_other n xs x ne in
      let others = ended_more n xs x an_end (omega arith) none in
      let a : ℕ = count_ended n xs in
      let b : ℕ = one_if (has_end (items_of n xs)) in
      rw (here, others) (omega arith)) (eqb_tells x.from n)

  at_most : (n : ℕ) (xs : List (Item T)) → count_ended n xs ≤ n
  at_most zero xs = omega arith
  at_most (suc n) xs =
      let m = at_most n xs in
      elim (has_end (items_of n xs)) as (λ b. count_ended n xs + one_if b ≤ suc n) [ true ↦ omega arith | false ↦ omega arith ]

  all_here : (n : ℕ) (xs : List (Item T)) → count_ended (suc n) xs ≡ suc n → (has_end (items_of n xs) ≡ true) × (count_ended n xs ≡ n)
  all_here n xs e =
      let m = at_most n xs in
      let last : has_end (items_of n xs) ≡ true = true_from_ne_false (has_end (items_of n xs)) (λ f.
      let g : count_ended n xs + 0 ≡ suc n = subst (λ b. count_ended n xs + one_if b ≡ suc n) f e in
      omega arith) in
      let g : count_ended n xs + 1 ≡ suc n = subst (λ b. count_ended n xs + one_if b ≡ suc n) last e in
      (last, omega arith)

  pub all_ended : (n : ℕ) (xs : List (Item T)) → count_ended n xs ≡ n → AllEnded n xs
  all_ended zero xs e p lt = absurd (omega arith)
  all_ended (suc n) xs e p lt =
      let h = all_here n xs e in
      ⊎_elim (λ t. subst (λ q. has_end (items_of q xs) ≡ true) (sym t.1) h.0) (λ t. let ne = t.1 in all_ended n xs h.1 p (omega arith)) (eqb_tells p n)

  pub ended_all : (n : ℕ) (xs : List (Item T)) → AllEnded n xs → count_ended n xs ≡ n
  ended_all zero xs all = refl
  ended_all (suc n) xs all = rw (all n (omega arith), ended_all n xs (λ p lt. all p (omega arith))) (omega arith)

  pub ended_none : (n : ℕ) (xs : List (Item T)) → xs ≡ [] → count_ended n xs ≡ 0
  ended_none zero xs e = refl
  ended_none (suc n) xs e = let h : count_ended n xs ≡ 0 = ended_none n xs e in rw (h, e) refl
