-- What stands at a place of a list, where one of its items is another.
use Rattle.std.proofs.Common.{◌≡◌, ℕ, zero, suc, List, [], ◌∷◌, set, Some, refl, ap}
use Rattle.std.specs.Prelude.{slice_get}

pub get_set_same : {A : Type 0} (xs : List A) (v : ℕ) (k x : A) → slice_get xs v ≡ Some k → slice_get (set xs v x) v ≡ Some x
get_set_same [] v k x e = absurd cc
get_set_same (y ∷ ys) zero k x e = refl
get_set_same (y ∷ ys) (suc v) k x e = get_set_same ys v k x e

pub get_set_other : {A : Type 0} (xs : List A) (v w : ℕ) (x : A) → (v ≡ w → ⊥) → slice_get (set xs v x) w ≡ slice_get xs w
get_set_other [] v w x other = refl
get_set_other (y ∷ ys) zero zero x other = absurd (other refl)
get_set_other (y ∷ ys) zero (suc w) x other = refl
get_set_other (y ∷ ys) (suc v) zero x other = refl
get_set_other (y ∷ ys) (suc v) (suc w) x other = get_set_other ys v w x (λ e. other (ap suc e))
