-- What the tests on texts say.
use Rattle.std.proofs.Common.{◌≡◌, ℕ, List, Option, Some, None, Bool, true, false, ◌&&◌, refl, sym, ◌∙◌}
use Rattle.std.specs.Prelude.{bytes_eq, if◌then◌else◌}
use Rattle.std.proofs.lemmas.Slice.Eq.{bytes_eq-Decides}
use Rattle.life.specs.Lives.{when}

abbrev pub Bytes : Type 0
Bytes = List ℕ

pub not_true : (d : Bool) → (d ≡ true → ⊥) → d ≡ false
not_true true h = absurd (h refl)
not_true false h = refl

pub never_both : (d : Bool) → d ≡ true → d ≡ false → ⊥
never_both d t f = let e : true ≡ false = sym t ∙ f in cc

pub bytes_same : (a b : List ℕ) → bytes_eq a b ≡ true → a ≡ b
bytes_same a b h = (bytes_eq-Decides a b).0 h

pub bytes_own : (a : List ℕ) → bytes_eq a a ≡ true
bytes_own a = (bytes_eq-Decides a a).1 refl

pub bytes_not : (a b : List ℕ) → (a ≡ b → ⊥) → bytes_eq a b ≡ false
bytes_not a b h = not_true (bytes_eq a b) (λ e. h (bytes_same a b e))

pub bytes_differ : (a b : List ℕ) → bytes_eq a b ≡ false → a ≡ b → ⊥
bytes_differ a b f e = never_both (bytes_eq a b) ((bytes_eq-Decides a b).1 e) f

pub bytes_other_way : (a b : List ℕ) → bytes_eq a b ≡ false → bytes_eq b a ≡ false
bytes_other_way a b f = bytes_not b a (λ e. bytes_differ a b f (sym e))

-- and, by its parts
pub and-left : (a b : Bool) → (a && b) ≡ true → a ≡ true
and-left true b h = refl
and-left false b h = h

pub and-right : (a b : Bool) → (a && b) ≡ true → b ≡ true
and-right true b h = h
and-right false b h = absurd (cc)

pub and-three : {a b c : Bool} → a ≡ true → b ≡ true → c ≡ true → (a && (b && c)) ≡ true
and-three e f g = rw (e, f, g) refl

pub and-false : (a : Bool) → (a && false) ≡ false
and-false true = refl
and-false false = refl

-- what holds of both branches holds
pub if_is : {A : Type 0} (P : A → Type 0) (d : Bool) (x y : A) → (d ≡ true → P x) → (d ≡ false → P y) → P (if d then x else y)
if_is P true x y h g = h refl
if_is P false x y h g = g refl

pub when_is : {A : Type 0} (P : Option A → Type 0) (d : Bool) (x : A) → (d ≡ true → P (Some x)) → (d ≡ false → P None) → P (when d x)
when_is P true x h g = h refl
when_is P false x h g = g refl
