-- So many elements, for a loop that has read some of them.
use Rattle.std.proofs.Common.{◌≡◌, ℕ, zero, suc, ◌-◌, arith, List, [], ◌∷◌, ◌++◌, Option, Some, None, refl, sym, ap, ◌∙◌, append_assoc}
use Rattle.std.proofs.lemmas.List.{append-nil}
use Rattle.sip_text.specs.Reading.{◌>>=◌}
use Rattle.snapshots.specs.Forms.{times_at}

module _ {A : Type 0} where
  -- what was read, with these in front
  abbrev pub with_front : List A → Option (List A × List ℕ) → Option (List A × List ℕ)
  with_front front read = read >>= λ r. Some (front ++ r.0, r.1)

  pub front_none : (read : Option (List A × List ℕ)) → with_front [] read ≡ read
  front_none None = refl
  front_none (Some r) = refl

  regroup : (front : List A) (x : A) (read : Option (List A × List ℕ)) → with_front front (read >>= λ r. Some (x ∷ r.0, r.1)) ≡ with_front (front ++ x ∷ []) read
  regroup front x None = refl
  regroup front x (Some r) = ap (λ (l : List A). Some (l, r.1)) (sym (append_assoc front (x ∷ []) r.0))

  module _ (f : List ℕ → Option (A × List ℕ)) (front : List A) (n m : ℕ) (t : List ℕ) (total : Option (List A × List ℕ)) (more : n ≡ suc m) (so_far : with_front front (times_at f n t) ≡ total) where
    pub goes_on : (x : A) (r : List ℕ) → f t ≡ Some (x, r) → with_front (front ++ x ∷ []) (times_at f m r) ≡ total
    unfolding times_at
    goes_on x r e =
        let one : times_at f (suc m) t ≡ (times_at f m r >>= λ y. Some (x ∷ y.0, y.1)) = rw e refl in
        sym (regroup front x (times_at f m r)) ∙ ap (with_front front) (sym one ∙ ap (λ k. times_at f k t) (sym more)) ∙ so_far

    pub fails : f t ≡ None → total ≡ None
    unfolding times_at
    fails e =
        let none : times_at f (suc m) t ≡ None = rw e refl in
        sym so_far ∙ ap (with_front front) (ap (λ k. times_at f k t) more ∙ none)

  pub is_done : (f : List ℕ → Option (A × List ℕ)) (front : List A) (n : ℕ) (t : List ℕ) (total : Option (List A × List ℕ)) → n ≡ 0 → with_front front (times_at f n t) ≡ total → total ≡ Some (front, t)
  unfolding times_at
  is_done f front n t total none so_far = sym so_far ∙ ap (with_front front) (ap (λ k. times_at f k t) none) ∙ ap (λ (l : List A). Some (l, t)) (append-nil front)

  pub begins : (f : List ℕ → Option (A × List ℕ)) (front : List A) (n : ℕ) (t : List ℕ) → front ≡ [] → with_front front (times_at f (n - 0) t) ≡ times_at f n t
  begins f front n t none =
      let same : n - 0 ≡ n = omega arith in
      ap (λ xs. with_front xs (times_at f (n - 0) t)) none ∙ front_none (times_at f (n - 0) t) ∙ ap (λ k. times_at f k t) same
