-- A text that was cut short is none.
use Rattle.std.proofs.Common.{◌≡◌, ◌∙◌, ℕ, ◌<◌, ◌+◌, List, [], ◌++◌, length, take, drop, Option, Some, sym, ap, append_assoc, arith}
use Rattle.std.proofs.lemmas.List.{append-nil, length-drop, take-append-drop}
use Rattle.sip_text.proofs.Pieces.{some_is}
use Rattle.notifier_model.specs.declared.saved.Saved.{Saved}
use Rattle.snapshots.specs.Forms.{IsForm, TornIsNone}
use Rattle.snapshots.specs.Books.{first_line, book_text, saved_text, saved_at, IsSaved, behind}
use Rattle.snapshots.proofs.Books.{behind_again, saved_form}

-- what a form reads of a text, whatever stands behind what was cut off
pub nothing_follows : {A : Type 0} (text : A → List ℕ) (Is : A → Type 0) (at : List ℕ → Option (A × List ℕ)) → IsForm text Is at → (a b : A) (rest : List ℕ) → Is a → Is b → text a ≡ text b ++ rest → rest ≡ []
nothing_follows {A} text Is at form a b rest h k e =
    let one : at (text a) ≡ Some (a, []) = ap at (sym (append-nil (text a))) ∙ form.again a [] h in
    let other : at (text a) ≡ Some (b, rest) = ap at e ∙ form.again b rest k in
    ap (λ (p : A × List ℕ). p.1) (some_is (b, rest) (a, []) (sym other ∙ one))

none_dropped : (t : List ℕ) (n : ℕ) → n < length t → drop n t ≡ [] → ⊥
none_dropped t n short e =
    let none : length (drop n t) ≡ 0 = ap length e in
    omega (arith, length-drop n t, none, short)

pub torn_is_none : {A : Type 0} (text : A → List ℕ) (Is : A → Type 0) (at : List ℕ → Option (A × List ℕ)) → IsForm text Is at → TornIsNone text Is
torn_is_none text Is at form a b n h k short e =
    let whole : text a ≡ text b ++ drop n (text a) = sym (take-append-drop n (text a)) ∙ ap (λ (l : List ℕ). l ++ drop n (text a)) e in
    none_dropped (text a) n short (nothing_follows text Is at form a b (drop n (text a)) h k whole)

pub torn_book : TornIsNone book_text IsSaved
torn_book a b n h k short e =
    let rest : List ℕ = drop n (book_text a) in
    let whole : book_text a ≡ first_line ++ (saved_text b ++ rest) =
    sym (take-append-drop n (book_text a)) ∙ ap (λ (l : List ℕ). l ++ rest) e ∙ append_assoc first_line (saved_text b) rest in
    let inside : saved_text a ≡ saved_text b ++ rest =
    some_is (saved_text a) (saved_text b ++ rest) (sym (behind_again (saved_text a)) ∙ ap behind whole ∙ behind_again (saved_text b ++ rest)) in
    none_dropped (book_text a) n short (nothing_follows saved_text IsSaved saved_at saved_form a b rest h k inside)
