-- Two lists with a relation between the elements at each place.
use Rattle.std.proofs.Common.{◌≡◌, ◌<◌, ℕ, zero, suc, List, [], ◌∷◌, length, get_or, refl, ap, subst, arith}
use Rattle.std.specs.Prelude.{Some, slice_get}
use Rattle.std.specs.List.{AllZip}
use Rattle.std.proofs.lemmas.Option.{get_or_from_slice_get, slice_get_within}

pub zipped : {A B : Type 0} (R : A → B → Type 0) (xs : List A) (ys : List B) → length ys ≡ length xs
    → ((k : ℕ) (x : A) (y : B) → k < length xs → R (get_or xs k x) (get_or ys k y)) → AllZip R xs ys
zipped R [] [] len each = tt
zipped R [] (y ∷ ys) len each = absurd (omega arith)
zipped R (x ∷ xs) [] len each = absurd (omega arith)
zipped R (x ∷ xs) (y ∷ ys) len each = (each 0 x y (omega arith), zipped R xs ys (omega arith) (λ k a b low. each (suc k) a b (omega arith)))

pub zip_len : {A B : Type 0} (R : A → B → Type 0) (xs : List A) (ys : List B) → AllZip R xs ys → length ys ≡ length xs
zip_len R [] [] all = refl
zip_len R [] (y ∷ ys) all = absurd all
zip_len R (x ∷ xs) [] all = absurd all
zip_len R (x ∷ xs) (y ∷ ys) all = ap suc (zip_len R xs ys all.1)

pub zip_at : {A B : Type 0} (R : A → B → Type 0) (xs : List A) (ys : List B) → AllZip R xs ys
    → (k : ℕ) (x : A) (y : B) → k < length xs → R (get_or xs k x) (get_or ys k y)
zip_at R [] [] all k a b low = absurd (omega arith)
zip_at R [] (y ∷ ys) all k a b low = absurd all
zip_at R (x ∷ xs) [] all k a b low = absurd all
zip_at R (x ∷ xs) (y ∷ ys) all zero a b low = all.0
zip_at R (x ∷ xs) (y ∷ ys) all (suc k) a b low = zip_at R xs ys all.1 k a b (omega arith)

pub zip_get : {A B : Type 0} (R : A → B → Type 0) (xs : List A) (ys : List B) → AllZip R xs ys
    → (k : ℕ) (x : A) (y : B) → slice_get xs k ≡ Some x → slice_get ys k ≡ Some y → R x y
zip_get R xs ys all k x y first second =
    subst (λ b. R x b) (get_or_from_slice_get ys k y y second)
    (subst (λ a. R a (get_or ys k y)) (get_or_from_slice_get xs k x x first) (zip_at R xs ys all k x y (slice_get_within xs k x first)))
