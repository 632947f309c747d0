-- Books are read again.
use Rattle.std.proofs.Common.{◌≡◌, ◌∙◌, ℕ, ◌<◌, Bool, true, false, cond, List, [], ◌∷◌, ◌++◌, length, drop, Option, Some, None, eqb, refl, sym, ap, arith}
use Rattle.std.specs.Prelude.{nat_eq}
use Rattle.std.specs.List.{starts_with}
use Rattle.std.proofs.lemmas.List.{append-nil, drop_at}
use Rattle.std.proofs.lemmas.Bool.{eqb-true}
use Rattle.std.proofs.lemmas.Bool.Decides.{nat_tests}
use Rattle.sip_text.proofs.Pieces.{and_both}
use Rattle.sip_text.specs.Reading.{◌>>=◌}
use Rattle.sip_text.proofs.Cuts.{test_some}
use Rattle.sip_text.proofs.Pieces.{bind_some, some_is}
use Rattle.notifier_model.specs.declared.row.Key.{Key}
use Rattle.notifier_model.specs.declared.row.Kept.{Kept}
use Rattle.notifier_model.specs.declared.saved.Saved.{Saved}
use Rattle.snapshots.specs.Forms.{IsForm}
use Rattle.snapshots.specs.Books.{KeyParts, key_of, key_at, key_text, IsKey, kept_of, kept_at, kept_text, IsKept, SavedParts, saved_of, saved_at, saved_text, IsSaved, first_line, book_text, behind, alone, book_of, IsBook}
use Rattle.snapshots.proofs.Forms.{number_form, bytes_form, text_form, both_form, IsMade, made_form, form_under, list_form}
use Rattle.snapshots.proofs.Rows.{row_form}

key_parts : Key → KeyParts
key_parts k = (k.branch, (k.sent_by, k.method))

key_made : IsMade key_of key_parts (λ k. Unit {0})
unfolding key_parts
key_made = record { made = λ a b e. (sym (ap key_parts (some_is _ b e)), tt); again = λ b h. refl }

pub key_form : IsForm key_text IsKey key_at
unfolding key_at key_parts
key_form =
    form_under _ _ _ _
    (λ k h. record { branch = h.0.0; sent_by = h.0.1.0; method = h.0.1.1 })
    (λ k h. ((h.branch, (h.sent_by, h.method)), tt))
    (made_form key_made (both_form text_form (both_form text_form text_form)))

kept_parts : Kept → Key × List ℕ
kept_parts k = (k.key, k.bytes)

kept_made : IsMade kept_of kept_parts (λ k. Unit {0})
unfolding kept_parts
kept_made = record { made = λ a b e. (sym (ap kept_parts (some_is _ b e)), tt); again = λ b h. refl }

pub kept_form : IsForm kept_text IsKept kept_at
unfolding kept_at kept_parts
kept_form =
    form_under _ _ _ _
    (λ k h. record { key = h.0.0; bytes = h.0.1 })
    (λ k h. ((h.key, h.bytes), tt))
    (made_form kept_made (both_form key_form bytes_form))

saved_parts : Saved → SavedParts
saved_parts s = (s.clock, (s.next, (s.rows, s.ring)))

saved_made : IsMade saved_of saved_parts (λ s. Unit {0})
unfolding saved_parts
saved_made = record { made = λ a b e. (sym (ap saved_parts (some_is _ b e)), tt); again = λ b h. refl }

pub saved_form : IsForm saved_text IsSaved saved_at
unfolding saved_at saved_parts
saved_form =
    form_under _ _ _ _
    (λ s h. record { clock = h.0.0; next = h.0.1.0; rows = h.0.1.1.0; ring = h.0.1.1.1 })
    (λ s h. ((h.clock, (h.next, (h.rows, h.ring))), tt))
    (made_form saved_made (both_form number_form (both_form number_form (both_form (list_form _ _ _ row_form) (list_form _ _ _ kept_form)))))

-- ---- the whole text

pub behind_again : (rest : List ℕ) → behind (first_line ++ rest) ≡ Some rest
unfolding behind
behind_again rest = refl

begins_with : (p t : List ℕ) → starts_with nat_eq t p ≡ true → t ≡ p ++ drop (length p) t
begins_with [] t e = refl
begins_with (x ∷ xs) [] e = absurd (cc)
begins_with (x ∷ xs) (y ∷ ys) e =
    let both = and_both (nat_eq x y) (starts_with nat_eq ys xs) e in
    let here : y ≡ x = (let h = both.0 in grind (arith, nat_tests)) in
    let rest = begins_with xs ys both.1 in
    ap (λ (z : ℕ). z ∷ ys) here ∙ ap (λ (l : List ℕ). x ∷ l) rest

behind_takes : (t rest : List ℕ) → behind t ≡ Some rest → t ≡ first_line ++ rest
unfolding behind
behind_takes t rest e =
    let k = test_some (starts_with nat_eq t first_line) (drop 17 t) rest e in
    begins_with first_line t k.0 ∙ ap (λ (l : List ℕ). first_line ++ l) k.1

rest_of : (t rest : List ℕ) (s : Saved) → behind t ≡ Some rest → IsBook t s → rest ≡ saved_text s
rest_of t rest s e is =
    let a : behind t ≡ Some (saved_text s) = ap behind is.whole ∙ behind_again (saved_text s) in
    some_is rest (saved_text s) (sym e ∙ a)

read_of : (t rest : List ℕ) (s : Saved) → behind t ≡ Some rest → IsBook t s → saved_at rest ≡ Some (s, [])
read_of t rest s e is = ap saved_at (rest_of t rest s e is ∙ sym (append-nil (saved_text s))) ∙ saved_form.again s [] is.is_saved

pub no_line : (t : List ℕ) → behind t ≡ None → (s : Saved) → IsBook t s → ⊥
no_line t e s is = let a : behind t ≡ Some (saved_text s) = ap behind is.whole ∙ behind_again (saved_text s) in absurd (cc)

pub not_read : (t rest : List ℕ) → behind t ≡ Some rest → saved_at rest ≡ None → (s : Saved) → IsBook t s → ⊥
not_read t rest e none s is = let a = read_of t rest s e is in absurd (cc)

pub more_follows : (t rest : List ℕ) (read : Saved) (left : List ℕ) → behind t ≡ Some rest → saved_at rest ≡ Some (read, left) → (length left ≡ 0 → ⊥) → (s : Saved) → IsBook t s → ⊥
more_follows t rest read left e found some s is =
    let a = read_of t rest s e is in
    let pair = some_is (read, left) (s, []) (sym found ∙ a) in
    let none : left ≡ [] = ap (λ (p : Saved × List ℕ). p.1) pair in
    some (ap length none)

pub whole_book : (t rest : List ℕ) (read : Saved) (left : List ℕ) → behind t ≡ Some rest → saved_at rest ≡ Some (read, left) → length left ≡ 0 → IsBook t read
whole_book t rest read left e found none =
    let k = saved_form.takes rest read left found in
    record {
      is_saved = k.1;
      whole = behind_takes t rest e ∙ ap (λ (l : List ℕ). first_line ++ l) (k.0 ∙ ap (λ (l : List ℕ). saved_text read ++ l) (nothing left none) ∙ append-nil (saved_text read));
    }
  where
    nothing : (l : List ℕ) → length l ≡ 0 → l ≡ []
    nothing [] e = refl
    nothing (x ∷ xs) e = absurd (omega (arith, e))
