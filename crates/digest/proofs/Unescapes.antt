-- Steps of the loop that drops backslashes.
use Rattle.std.proofs.Common.{◌≡◌, ℕ, ◌+◌, ◌<◌, ◌≤◌, Bool, true, false, eqb, List, [], ◌∷◌, ◌++◌, length, get_or, drop, refl, sym, ap, ◌∙◌, append_assoc}
use Rattle.std.proofs.lemmas.List.{drop_more, drop_all, append-nil}
use Rattle.digest.specs.Params.{unescaped}

module _ (front xs total : List ℕ) (i : ℕ) (lt : i < length xs) where
  at : drop i xs ≡ get_or xs i 0 ∷ drop (i + 1) xs
  at = drop_more xs i 0 lt

  pub takes : front ++ unescaped true (drop i xs) ≡ total → (front ++ get_or xs i 0 ∷ []) ++ unescaped false (drop (i + 1) xs) ≡ total
  takes so_far = append_assoc front (get_or xs i 0 ∷ []) (unescaped false (drop (i + 1) xs)) ∙ ap (λ (l : List ℕ). front ++ unescaped true l) (sym at) ∙ so_far

  pub closes : front ++ unescaped false (drop i xs) ≡ total → eqb (get_or xs i 0) 34 ≡ true → front ≡ total
  closes so_far same =
      let end : unescaped false (drop i xs) ≡ [] = rw (at, same) refl in
      sym (append-nil front) ∙ ap (λ (l : List ℕ). front ++ l) (sym end) ∙ so_far

  pub escapes : front ++ unescaped false (drop i xs) ≡ total → eqb (get_or xs i 0) 34 ≡ false → eqb (get_or xs i 0) 92 ≡ true → front ++ unescaped true (drop (i + 1) xs) ≡ total
  escapes so_far other slash =
      let step : unescaped false (drop i xs) ≡ unescaped true (drop (i + 1) xs) = rw (at, other, slash) refl in
      ap (λ (l : List ℕ). front ++ l) (sym step) ∙ so_far

  pub goes_on : front ++ unescaped false (drop i xs) ≡ total → eqb (get_or xs i 0) 34 ≡ false → eqb (get_or xs i 0) 92 ≡ false → (front ++ get_or xs i 0 ∷ []) ++ unescaped false (drop (i + 1) xs) ≡ total
  goes_on so_far other plain =
      let step : unescaped false (drop i xs) ≡ get_or xs i 0 ∷ unescaped false (drop (i + 1) xs) = rw (at, other, plain) refl in
      append_assoc front (get_or xs i 0 ∷ []) (unescaped false (drop (i + 1) xs)) ∙ ap (λ (l : List ℕ). front ++ l) (sym step) ∙ so_far

pub ends : (front xs total : List ℕ) (i : ℕ) (escaped : Bool) → length xs ≤ i → front ++ unescaped escaped (drop i xs) ≡ total → front ≡ total
ends front xs total i escaped le so_far =
    let end : unescaped escaped (drop i xs) ≡ [] = rw (drop_all i xs le) refl in
    sym (append-nil front) ∙ ap (λ (l : List ℕ). front ++ l) (sym end) ∙ so_far
