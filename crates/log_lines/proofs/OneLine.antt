-- What fits into a line is one line, with its line feed, and so is what stands for what doesn't.
use Rattle.std.proofs.Common.{◌≡◌, ◌≢◌, ℕ, ◌==◌, Bool, true, false, not, ◌&&◌, List, [], ◌∷◌, ◌++◌, refl, sym, ◌∙◌, codes, eq-eqb}
use Rattle.std.proofs.lemmas.Bool.{or_parts}
use Rattle.std.specs.List.{AllByRecursion, list_any}
use Rattle.std.specs.Str.{byte}
use Rattle.log_lines.specs.declared.record.TheConstants.{LOST}
use Rattle.log_lines.specs.Lines.{IsOneLine, fits}

clash : false ≡ true → ⊥
clash e = absurd cc

right_true : (a b : Bool) → (a && b) ≡ true → b ≡ true
right_true true b h = h
right_true false b h = absurd (clash h)

not_true : (b : Bool) → not b ≡ true → b ≡ false
not_true true h = absurd (clash h)
not_true false h = refl

none_among : (octets : List ℕ) → list_any (λ octet. octet == 10) octets ≡ false → AllByRecursion (λ octet. octet ≢ byte "\n") octets
none_among [] h = tt
none_among (x ∷ xs) h = let parts = or_parts (x == 10) _ h in ((λ e. clash (sym parts.0 ∙ eq-eqb x 10 e)), none_among xs parts.1)

pub lost_is_line : (octets : List ℕ) → octets ≡ LOST.now → IsOneLine octets
lost_is_line octets e =
    let front = codes "{\"what\":\"lost\",\"level\":\"error\"}" in
    (front, e, none_among front refl)

pub fits_is_line : (octets new : List ℕ) → fits octets ≡ true → new ≡ octets ++ 10 ∷ [] → IsOneLine new
fits_is_line octets new room e = (octets, e, none_among octets (not_true _ (right_true _ _ room)))
