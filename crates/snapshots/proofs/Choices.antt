-- One of several cases, told by the byte in front.
use Rattle.std.proofs.Common.{◌≡◌, ◌∙◌, ℕ, ◌⊎◌, Bool, true, false, cond, List, [], ◌∷◌, ◌++◌, Option, Some, None, eqb, refl, sym, ap, subst}
use Rattle.std.proofs.lemmas.Bool.{eqb-true}
use Rattle.std.specs.Prelude.{SomeIff}
use Rattle.sip_text.proofs.Pieces.{bind_some, some_is}
use Rattle.snapshots.specs.Forms.{IsForm, case_at}

-- either this byte stands in front, or another case is looked for
pub pick : {R : Type 0} {C : Type 0} (x mark : ℕ) (p q : Option R) (r : R) → cond (eqb x mark) p q ≡ Some r → (x ≡ mark → p ≡ Some r → C) → (q ≡ Some r → C) → C
pick {R} {C} x mark p q r e here there = step (eqb x mark) refl e where
  step : (b : Bool) → eqb x mark ≡ b → cond b p q ≡ Some r → C
  step true is e = here (eqb-true x mark is) e
  step false other e = there e

module _ {A B : Type 0} (make : A → B) (text : B → List ℕ) (Is : B → Type 0) {f_text : A → List ℕ} {F : A → Type 0} {f : List ℕ → Option (A × List ℕ)} (form : IsForm f_text F f) where
  pub case_again : (a : A) (rest : List ℕ) → F a → case_at make f (f_text a ++ rest) ≡ Some (make a, rest)
  case_again a rest h = rw (form.again a rest h) refl

  -- what a case finds behind its byte is the text of it
  pub case_takes : (x mark : ℕ) (xs : List ℕ) (b : B) (rest : List ℕ) → ((a : A) → text (make a) ≡ mark ∷ f_text a) → ((a : A) → F a → Is (make a)) → x ≡ mark → case_at make f xs ≡ Some (b, rest) → (x ∷ xs ≡ text b ++ rest) × Is b
  case_takes x mark xs b rest text_is is first e =
      let p = bind_some (f xs) (λ y. Some (make y.0, y.1)) (b, rest) e in
      let c = form.takes xs p.0.0 p.0.1 p.1 in
      let whole : x ∷ xs ≡ text (make p.0.0) ++ p.0.1 =
      ap (λ (y : ℕ). y ∷ xs) first ∙ ap (λ (l : List ℕ). mark ∷ l) c.0 ∙ ap (λ (l : List ℕ). l ++ p.0.1) (sym (text_is p.0.0)) in
      subst (λ (z : B × List ℕ). (x ∷ xs ≡ text z.0 ++ z.1) × Is z.0) (some_is (make p.0.0, p.0.1) (b, rest) p.2) (whole, is p.0.0 c.1)

-- a case without parts
pub alone_takes : {B : Type 0} (text : B → List ℕ) (Is : B → Type 0) (x mark : ℕ) (xs : List ℕ) (a b : B) (rest : List ℕ) → text a ≡ mark ∷ [] → Is a → x ≡ mark → ◌≡◌ {A = Option (B × List ℕ)} (Some (a, xs)) (Some (b, rest)) → (x ∷ xs ≡ text b ++ rest) × Is b
alone_takes {B} text Is x mark xs a b rest text_is is first e =
    let whole : x ∷ xs ≡ text a ++ xs = ap (λ (y : ℕ). y ∷ xs) first ∙ ap (λ (l : List ℕ). l ++ xs) (sym text_is) in
    subst (λ (z : B × List ℕ). (x ∷ xs ≡ text z.0 ++ z.1) × Is z.0) (some_is (a, xs) (b, rest) e) (whole, is)

-- what a call gives exactly where this holds
pub given_where : {X : Type 0} (o : Option X) (P : Type 0) (v : X) (b : Bool) → SomeIff o P v → (b ≡ true → P) → (P → b ≡ true) → o ≡ cond b (Some v) None
given_where None P v true h to from = absurd (h (to refl))
given_where None P v false h to from = refl
given_where (Some x) P v true h to from = ap (λ y. Some y) h.1
given_where (Some x) P v false h to from = let e = from h.0 in absurd cc
