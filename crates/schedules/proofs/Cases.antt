-- What holds of both branches of a choice holds of the choice.
use Rattle.std.proofs.Common.{◌≡◌, ◌<◌, ℕ, Bool, true, false, ◌&&◌, not, true≢false, refl, sym, ◌∙◌}
use Rattle.std.specs.Prelude.{if◌then◌else◌, nat_lt, ◌==◌}
use Rattle.std.proofs.lemmas.Bool.Decides.{Decides-eqb, Decides-ltb}

pub if_is : {A : Type 0} (P : A → Type 0) (d : Bool) (x y : A) → (d ≡ true → P x) → (d ≡ false → P y) → P (if d then x else y)
if_is P true x y h g = h refl
if_is P false x y h g = g refl

pub never_both : (d : Bool) → d ≡ true → d ≡ false → ⊥
never_both d t f = true≢false (sym t ∙ f)

pub and-left : (a b : Bool) → (a && b) ≡ true → a ≡ true
and-left true b h = refl
and-left false b h = h

pub and-right : (a b : Bool) → (a && b) ≡ true → b ≡ true
and-right true b h = h
and-right false b h = absurd (true≢false (sym h))

pub not_so : (d : Bool) → not d ≡ true → d ≡ false
not_so true h = absurd (true≢false (sym h))
not_so false h = refl

pub same_number : (a b : ℕ) → (a == b) ≡ true → a ≡ b
same_number a b h = (Decides-eqb a b).0 h

pub is_below : (a b : ℕ) → nat_lt a b ≡ true → a < b
is_below a b h = (Decides-ltb a b).0 h
