-- Lines that are joined.
use Rattle.std.proofs.Common.{◌≡◌, ℕ, List, [], ◌∷◌, ◌++◌, refl, sym, ap, ◌∙◌, append_assoc}
use Rattle.sip_write.specs.Lines.{joined, line_end}

pub joined-append : (xs ys : List (List ℕ)) → joined (xs ++ ys) ≡ joined xs ++ joined ys
unfolding joined
joined-append [] ys = refl
joined-append (x ∷ xs) ys = ap (λ zs. x ++ (line_end ++ zs)) (joined-append xs ys) ∙ sym (append_assoc x (line_end ++ joined xs) (joined ys))
