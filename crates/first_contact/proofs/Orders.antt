-- Of all that is let through, that of one dialog.
use Rattle.std.proofs.Common.{◌≡◌, ◌∙◌, sym, ap, refl, subst, ℕ, Bool, true, false, List, [], ◌∷◌, ◌++◌}
use Rattle.std.specs.Prelude.{bytes_eq, map, if◌then◌else◌}
use Rattle.std.proofs.lemmas.Slice.Eq.{bytes_eq-Decides}
use Rattle.first_contact.specs.declared.contact.Notice.{Notice}
use Rattle.first_contact.specs.Steps.{Step, idle}
use Rattle.first_contact.specs.Runs.{Call, tag_of, step_of, step_at, through, offers, IsPart}
use Rattle.first_contact.specs.Sends.{Known, nothing, after, sends, of_tag, EachDialogInOrder}
use Rattle.first_contact.proofs.Parts.{each_in_order}

-- those that one call lets through are all of its own dialog
one_tag : (tag named : List ℕ) (ns : List Notice) (rest : List (List ℕ × Notice))
    → of_tag tag (map (λ (n : Notice). (named, n)) ns ++ rest) ≡ (if bytes_eq named tag then ns else []) ++ of_tag tag rest
one_tag tag named [] rest = by (bytes_eq named tag)
  where
    none : List Notice
    none = []

    by : (b : Bool) → of_tag tag rest ≡ (if b then none else none) ++ of_tag tag rest
    by true = refl
    by false = refl
one_tag tag named (n ∷ ns) rest = by (bytes_eq named tag) _ (one_tag tag named ns rest)
  where
    by : (b : Bool) (x : List Notice) → x ≡ (if b then ns else []) ++ of_tag tag rest → (if b then n ∷ x else x) ≡ (if b then n ∷ ns else []) ++ of_tag tag rest
    by true x e = ap (λ (l : List Notice). n ∷ l) e
    by false x e = e

here : (tag : List ℕ) (call : Call) (s : Known) → (if bytes_eq (tag_of call) tag then (step_of call (s (tag_of call))).through else []) ≡ (step_at tag call (s tag)).through
here tag call s = by (bytes_eq (tag_of call) tag) refl
  where
    one : Bool → List Notice
    one b = if b then (step_of call (s (tag_of call))).through else []

    two : Bool → Step
    two b = if b then step_of call (s tag) else idle (s tag)

    by : (b : Bool) → bytes_eq (tag_of call) tag ≡ b → one (bytes_eq (tag_of call) tag) ≡ (two (bytes_eq (tag_of call) tag)).through
    by true e =
        let same : tag_of call ≡ tag = (bytes_eq-Decides (tag_of call) tag).0 e in
        ap (λ (b : Bool). one b) e ∙ ap (λ (t : List ℕ). (step_of call (s t)).through) same ∙ sym (ap (λ (b : Bool). (two b).through) e)
    by false e = ap (λ (b : Bool). one b) e ∙ sym (ap (λ (b : Bool). (two b).through) e)

of_one : (tag : List ℕ) (calls : List Call) (s : Known) → of_tag tag (sends calls s) ≡ through tag calls (s tag)
of_one tag [] s = refl
of_one tag (call ∷ calls) s =
    one_tag tag (tag_of call) (step_of call (s (tag_of call))).through (sends calls (after call s))
    ∙ ap (λ (l : List Notice). l ++ of_tag tag (sends calls (after call s))) (here tag call s)
    ∙ ap (λ (xs : List Notice). (step_at tag call (s tag)).through ++ xs) (of_one tag calls (after call s))

pub each_dialog_in_order : EachDialogInOrder
each_dialog_in_order calls tag = subst (λ (xs : List Notice). IsPart xs (offers tag calls)) (sym (of_one tag calls nothing)) (each_in_order tag calls)
