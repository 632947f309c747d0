-- Texts that a test finds the same.
use Rattle.std.proofs.Common.{◌≡◌, ℕ, true, List}
use Rattle.std.specs.Prelude.{bytes_eq}
use Rattle.std.proofs.lemmas.Slice.Eq.{bytes_eq-Decides}

pub same_text : (x y : List ℕ) → bytes_eq x y ≡ true → x ≡ y
same_text x y e = (bytes_eq-Decides x y).0 e

pub text_same : (x y : List ℕ) → x ≡ y → bytes_eq x y ≡ true
text_same x y e = (bytes_eq-Decides x y).1 e
