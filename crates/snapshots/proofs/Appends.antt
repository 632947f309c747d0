-- What several calls append.
use Rattle.std.proofs.Common.{◌≡◌, ℕ, List, ◌++◌, ap, ◌∙◌, append_assoc}

pub more : (a x y : List ℕ) {b c : List ℕ} → b ≡ a ++ x → c ≡ b ++ y → c ≡ a ++ (x ++ y)
more a x y e f = f ∙ ap (λ (l : List ℕ). l ++ y) e ∙ append_assoc a x y
