-- Names of two lengths are two names.
use Rattle.std.proofs.Common.{◌≡◌, ℕ, suc, Bool, true, false, ◌&&◌, List, [], ◌∷◌, length, refl, ap}
use Rattle.std.specs.Str.{str_eq_ignore_ascii_case}

and_false : (b : Bool) → (b && false) ≡ false
and_false true = refl
and_false false = refl

pub other_length : (a b : List ℕ) → (length a ≡ length b → ⊥) → str_eq_ignore_ascii_case a b ≡ false
other_length [] [] apart = absurd (apart refl)
other_length [] (y ∷ ys) apart = refl
other_length (x ∷ xs) [] apart = refl
other_length (x ∷ xs) (y ∷ ys) apart = rw (other_length xs ys (λ same. apart (ap suc same))) (and_false _)
