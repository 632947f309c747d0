-- A pair of texts among others.
use Rattle.std.proofs.Common.{◌≡◌, ℕ, Bool, true, List, get_or, refl, sym, ap, ◌∙◌}
use Rattle.std.specs.Prelude.{◌&&◌, bytes_eq, Contains}
use Rattle.std.specs.List.{list_any}
use Rattle.std.proofs.lemmas.List.Folds.{list_any_at}
use Rattle.std.proofs.lemmas.Map.Views.{Contains-from_any}
use Rattle.sip_text.proofs.Pieces.{and_both}
use Rattle.digest.proofs.Texts.{same_text, text_same}

abbrev Pair : Type 0
Pair = List ℕ × List ℕ

abbrev pub is_pair : Pair → Pair → Bool
is_pair pair other = bytes_eq other.0 pair.0 && bytes_eq other.1 pair.1

same_pair : (x y : Pair) → is_pair x y ≡ true → x ≡ y
same_pair x y e =
    let both = and_both (bytes_eq y.0 x.0) (bytes_eq y.1 x.1) e in
    let first : y.0 ≡ x.0 = same_text y.0 x.0 both.0 in
    let second : y.1 ≡ x.1 = same_text y.1 x.1 both.1 in
    sym (ap (λ (a : List ℕ). (a, y.1)) first ∙ ap (λ (b : List ℕ). (x.0, b)) second)

pair_same : (x y : Pair) → y ≡ x → is_pair x y ≡ true
pair_same x y e = rw (e, text_same x.0 x.0 refl, text_same x.1 x.1 refl) refl

pub found : (pair : Pair) (further : List Pair) → list_any (is_pair pair) further ≡ true → Contains further pair
found pair further e = Contains-from_any {eq = is_pair} same_pair pair further e

pub again : (pair : Pair) (further : List Pair) → Contains further pair → list_any (is_pair pair) further ≡ true
again pair further h = list_any_at (is_pair pair) further h.0 pair h.1 (pair_same pair (get_or further h.0 pair) h.2)
