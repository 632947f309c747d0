-- Where no character of a text passes a test.
use Rattle.std.proofs.Common.{◌≡◌, ◌+◌, List, [], ◌∷◌, length, Bool, true, false, cond, not, refl, ◌∙◌, arith, ◌||◌}
use Rattle.std.specs.List.{list_any, position_or_len}

step_none : {X : Type 0} (p : X → Bool) (x : X) (xs : List X) (b : Bool) → p x ≡ b → cond (not b) (1 + position_or_len p xs) 0 ≡ length xs + 1
    → (position_or_len p xs ≡ length xs → list_any p xs ≡ false) → (b || list_any p xs) ≡ false
step_none p x xs true e h rest = absurd (omega arith)
step_none p x xs false e h rest = rest (omega arith)

pub none_passes : {X : Type 0} (p : X → Bool) (xs : List X) → position_or_len p xs ≡ length xs → list_any p xs ≡ false
none_passes p [] h = refl
none_passes p (x ∷ xs) h = step_none p x xs (p x) refl (h ∙ (omega arith)) (none_passes p xs)
