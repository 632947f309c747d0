-- Lists of items, and lists of views.
use Rattle.std.proofs.Common.{◌≡◌, ◌≢◌, ◌==◌, ℕ, zero, suc, true, false, true≢false, List, [], ◌∷◌, ◌++◌, length, sym, refl, ap, ◌∙◌, subst, ⊎_elim, ◌⊎◌, inl, inr, append_assoc, eq-eqb, ne_eqb, arith}
use mathlib.Core.Option.{some, some-injective, some-ne-none}
use lib.ListN.{get_elem?}
use Rattle.std.proofs.lemmas.List.{append-nil}
use Rattle.std.proofs.lemmas.List.Elements.{filter-append}
use Rattle.std.proofs.lemmas.Bool.{false_from_ne_true}
use Rattle.queues.specs.declared.items.Item.{Item}
use Rattle.queues.specs.Items.{items_of, has_end, is_end, NothingAfterEnd, TookInOrder}

-- an element of a list with one more is of the list, or the one
pub at_end : {A : Type 0} (l : List A) (a b : A) (j : ℕ) → get_elem? (l ++ a ∷ []) j ≡ some b
    → (get_elem? l j ≡ some b) ⊎ ((j ≡ length l) × (a ≡ b))
at_end [] a b zero e = inr (refl, some-injective a b e)
at_end [] a b (suc j) e = absurd (some-ne-none b (sym e))
at_end (x ∷ xs) a b zero e = inl e
at_end (x ∷ xs) a b (suc j) e = ⊎_elim inl (λ t. inr (ap suc t.0, t.1)) (at_end xs a b j e)

module _ {T : Type 0} where
  pub items_of-append : (p : ℕ) (xs ys : List (Item T)) → items_of p (xs ++ ys) ≡ items_of p xs ++ items_of p ys
  items_of-append p xs ys = filter-append (λ (x : Item T). x.from == p) xs ys

  pub items_of_same : (p : ℕ) (x : Item T) → x.from ≡ p → items_of p (x ∷ []) ≡ x ∷ []
  items_of_same p x e = rw (eq-eqb x.from p e) refl

  pub items_of_other : (p : ℕ) (x : Item T) → x.from ≢ p → items_of p (x ∷ []) ≡ []
  items_of_other p x e = rw (ne_eqb x.from p e) refl

  pub items_of_first : (p : ℕ) (x : Item T) (xs : List (Item T)) → x.from ≡ p → items_of p (x ∷ xs) ≡ x ∷ items_of p xs
  items_of_first p x xs e = rw (eq-eqb x.from p e) refl

  -- what was taken and what is held, after one more item is sent
  pub items_of_more : (p : ℕ) (taken items : List (Item T)) (x : Item T)
      → items_of p (taken ++ (items ++ x ∷ [])) ≡ items_of p (taken ++ items) ++ items_of p (x ∷ [])
  items_of_more p taken items x = ap (items_of p) (sym (append_assoc taken items (x ∷ []))) ∙ items_of-append p (taken ++ items) (x ∷ [])

  pub not_nil : (xs : List (Item T)) (y : Item T) (ys : List (Item T)) → xs ++ y ∷ ys ≢ []
  not_nil [] y ys e = cc
  not_nil (x ∷ xs) y ys e = cc

  -- where there is no end mark, an item may be added
  pub ends_snoc : (xs : List (Item T)) (x : Item T) → has_end xs ≡ false → NothingAfterEnd (xs ++ x ∷ [])
  ends_snoc [] x h = ((λ _. refl), tt)
  ends_snoc (y ∷ ys) x h = grind (arith, ends_snoc ys x)

  -- before an item there is no end mark
  pub ends_front : (xs : List (Item T)) (y : Item T) (ys : List (Item T)) → NothingAfterEnd (xs ++ y ∷ ys) → has_end xs ≡ false
  ends_front [] y ys h = refl
  ends_front (x ∷ xs) y ys h = rw (false_from_ne_true (is_end x) (λ e. not_nil xs y ys (h.0 e))) (ends_front xs y ys h.1)

  -- after an end mark there is nothing
  pub ends_rest : (xs ys : List (Item T)) → NothingAfterEnd (xs ++ ys) → has_end xs ≡ true → ys ≡ []
  ends_rest xs [] h e = refl
  ends_rest xs (y ∷ ys) h e = absurd (true≢false (sym e ∙ ends_front xs y ys h))

  pub took_in_order : (p : ℕ) (taken items sent : List (Item T)) → items_of p (taken ++ items) ≡ sent → NothingAfterEnd sent
      → TookInOrder p taken sent
  took_in_order p taken items sent same last =
      let cut = items_of-append p taken items in
      let front : List (Item T) = items_of p taken in
      let rest : List (Item T) = items_of p items in
      let ended : NothingAfterEnd (front ++ rest) = subst NothingAfterEnd (sym same ∙ cut) last in
      ((rest, sym same ∙ cut), λ e. sym (append-nil front) ∙ ap (λ l. front ++ l) (sym (ends_rest front rest ended e)) ∙ sym cut ∙ same)
