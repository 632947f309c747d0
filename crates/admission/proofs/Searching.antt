-- The first of several lines that passes a test.
use Rattle.std.proofs.Common.{◌≡◌, ℕ, ◌+◌, ◌<◌, Bool, true, false, List, ◌∷◌, length, drop, get_or, Option, Some, refl, sym, ap, ◌∙◌, add-one, drop-cons}
use Rattle.std.specs.Prelude.{find}

here : (p : List ℕ → Bool) (xs : List (List ℕ)) (i : ℕ) (d : List ℕ) → i < length xs → drop i xs ≡ get_or xs i d ∷ drop (i + 1) xs
here p xs i d within = rw (add-one, drop-cons xs i d) refl

-- one that fails is passed
pub passed : (p : List ℕ → Bool) (xs : List (List ℕ)) (i : ℕ) (d x : List ℕ) (whole : Option (List ℕ)) → i < length xs → x ≡ get_or xs i d → p x ≡ false
    → find p (drop i xs) ≡ whole → find p (drop (i + 1) xs) ≡ whole
passed p xs i d x whole within is fails known =
    let fails' : p (get_or xs i d) ≡ false = ap p (sym is) ∙ fails in
    let step : find p (get_or xs i d ∷ drop (i + 1) xs) ≡ find p (drop (i + 1) xs) = rw fails' refl in
    sym step ∙ ap (find p) (sym (here p xs i d within)) ∙ known

-- one that passes is found
pub found : (p : List ℕ → Bool) (xs : List (List ℕ)) (i : ℕ) (d x : List ℕ) (whole : Option (List ℕ)) → i < length xs → x ≡ get_or xs i d → p x ≡ true
    → find p (drop i xs) ≡ whole → whole ≡ Some x
found p xs i d x whole within is passes known =
    let passes' : p (get_or xs i d) ≡ true = ap p (sym is) ∙ passes in
    let step : find p (get_or xs i d ∷ drop (i + 1) xs) ≡ Some (get_or xs i d) = rw passes' refl in
    sym known ∙ ap (find p) (here p xs i d within) ∙ step ∙ ap (λ (y : List ℕ). Some y) (sym is)
