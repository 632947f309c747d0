-- What is read of a desk, and what it makes of its end.
use Rattle.std.proofs.Common.{◌≡◌, ◌∙◌, ℕ, List, [], ◌∷◌, ◌++◌, map, Option, Some, None, Ok, Err, option_map, refl, sym, ap, subst, append_assoc}
use Rattle.std.proofs.lemmas.List.{append-nil, map-append}
use Rattle.std.proofs.lemmas.List.Concat.{flat_map-append}
use Rattle.notifier_model.specs.declared.event.Event.TheVariants.{Shut}
use Rattle.notifier_model.specs.declared.event.Out.{Out}
use Rattle.notifier_model.specs.declared.saved.Saved.{Saved}
use Rattle.notifier_model.specs.Book.{step}
use Rattle.notifier_model.specs.Out.{out_of}
use Rattle.snapshots.specs.Books.{IsBook, IsSaved, book_text}
use Rattle.notifier.specs.Standing.{Standing}
use Rattle.notifier.specs.Written.{saved_of}
use Rattle.notifier.proofs.Written.{read_again}
use Rattle.resumption.specs.Changed.{shut_outs, all_shut}

pub no_ok : {A E X : Type 0} (x : A) (y : E) → Ok x ≡ Err y → X
no_ok x y e = absurd cc

-- what was read of bytes to which a desk saved
pub saved_there : (o : Option Standing) (first bytes : List ℕ) (book : Saved) → (o ≡ None → ⊥) → first ≡ []
    → ((s : Standing) → o ≡ Some s → bytes ≡ first ++ book_text (saved_of s.book)) → ((s : Standing) → o ≡ Some s → IsSaved (saved_of s.book))
    → IsBook bytes book → option_map (λ (s : Standing). saved_of s.book) o ≡ Some book
saved_there None first bytes book some none text fits is = absurd (some refl)
saved_there (Some s) first bytes book some none text fits is =
    let whole : bytes ≡ book_text (saved_of s.book) = text s refl ∙ ap (λ (l : List ℕ). l ++ book_text (saved_of s.book)) none in
    let again : book ≡ saved_of s.book = read_again (saved_of s.book) (fits s refl) (Ok book) (subst (λ (b : List ℕ). IsBook b book) whole is) in
    ap (λ (b : Saved). Some b) (sym again)

pub shut_there : (o : Option Standing) (outs : List Out) → (o ≡ None → ⊥) → ((s : Standing) → o ≡ Some s → outs ≡ map out_of (step s.place s.book Shut).outs) → outs ≡ shut_outs o
shut_there None outs some made = absurd (some refl)
shut_there (Some s) outs some made = made s refl

-- one desk more
pub shut_more : {D : Type 0} (seen : D → Option Standing) (done : List D) (desk : D) (first so_far more after : List Out)
    → so_far ≡ first ++ all_shut (map seen done) → more ≡ shut_outs (seen desk) → after ≡ so_far ++ more → after ≡ first ++ all_shut (map seen (done ++ desk ∷ []))
shut_more seen done desk first so_far more after held made new =
    new
    ∙ ap (λ (l : List Out). l ++ more) held
    ∙ ap (λ (l : List Out). (first ++ all_shut (map seen done)) ++ l) (made ∙ sym (append-nil (shut_outs (seen desk))))
    ∙ append_assoc first (all_shut (map seen done)) (all_shut (seen desk ∷ []))
    ∙ ap (λ (l : List Out). first ++ l) (sym (flat_map-append shut_outs (map seen done) (seen desk ∷ [])) ∙ ap all_shut (sym (map-append seen done (desk ∷ []))))
