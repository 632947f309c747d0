-- The run of a replay, after one event more, and the outs of that event.
use Rattle.std.proofs.Common.{◌≡◌, ℕ, List, [], ◌∷◌, ◌++◌, ◌↔◌, Option, Some, None, Result, Ok, Err, IfOk, OnOk, map, refl, sym, ap, subst, ◌∙◌}
use Rattle.notifier_model.specs.Book.{Book, step}
use Rattle.notifier_model.specs.Run.{run_from}
use Rattle.notifier.specs.Standing.{Standing, IsHandled}
use Rattle.notifier.specs.Written.{saved_of}
use Rattle.notifier_model.specs.declared.saved.Saved.{Saved}
use Rattle.snapshots.specs.Books.{IsBook, IsSaved, book_text}
use Rattle.notifier_model.specs.declared.event.Event.{Event}
use Rattle.notifier_model.specs.declared.event.Out.{Out}
use Rattle.notifier_model.proofs.Runs.{run_from-push}
use Rattle.notifier_model.specs.Out.{out_of}
use Rattle.crew.specs.Recorded.{IsRun, AreOutsOf}

pub grown : (start old new : Option Standing) (events : List Event) (e : Event) (outs : List Out) → IsRun start events old → (old ≡ None → ⊥)
    → ((s : Standing) → old ≡ Some s → IsHandled s e new outs) → IsRun start (events ++ e ∷ []) new
grown None old new events e outs run alive next = absurd (alive run)
grown (Some b) None new events e outs run alive next = absurd (alive refl)
grown (Some b) (Some m) new events e outs run alive next =
    let P : Option Standing → Type 0 = λ o. IsRun (Some b) (events ++ e ∷ []) o in
    subst P (sym (next m refl).book_is)
    (ap (λ (n : Standing). let s : Standing = record { place = n.place; book = (step n.place n.book e).book } in s) run
    ∙ ap (λ (x : Book). let s : Standing = record { place = b.place; book = x } in s) (sym (run_from-push b.place b.book events e)))

pub outs_of : (start old new : Option Standing) (events : List Event) (e : Event) (outs : List Out) → IsRun start events old → (old ≡ None → ⊥)
    → ((s : Standing) → old ≡ Some s → IsHandled s e new outs) → AreOutsOf e outs
outs_of None old new events e outs run alive next = absurd (alive run)
outs_of (Some b) None new events e outs run alive next = absurd (alive refl)
outs_of (Some b) (Some m) new events e outs run alive next = record {
  start = b;
  before = events;
  outs_are = (next m refl).outs_are ∙ ap (λ (n : Standing). map out_of (step n.place n.book e).outs) run;
}

-- what a call of a replay tells, for a caller that sees neither the list nor the desk
pub handled_outs : {A E : Type 0} (items : A → List Out) (start old new : Option Standing) (events : List Event) (e : Event) (spent : E) (r : Result A E)
    → OnOk r (IsRun start events old) → (r ≡ Err spent ↔ old ≡ None) → IfOk r (λ x. (s : Standing) → old ≡ Some s → IsHandled s e new (items x))
    → IfOk r (λ x. AreOutsOf e (items x))
handled_outs items start old new events e spent (Err x) ran is ok = tt
handled_outs items start None new events e spent (Ok x) ran is ok = let f = is.1 refl in cc
handled_outs items start (Some m) new events e spent (Ok x) ran is ok = outs_of start (Some m) new events e (items x) ran (λ z. cc z) ok

pub begun_run : (desk : Option Standing) → IsRun desk [] desk
unfolding run_from
begun_run None = refl
begun_run (Some s) = refl

-- the outs of an event at a desk that isn't spent
pub outs_there : (old new : Option Standing) (e : Event) (outs : List Out) → (old ≡ None → ⊥) → ((s : Standing) → old ≡ Some s → IsHandled s e new outs) → AreOutsOf e outs
unfolding run_from
outs_there None new e outs alive next = absurd (alive refl)
outs_there (Some m) new e outs alive next = record { start = m; before = []; outs_are = (next m refl).outs_are }

-- the same outs
pub outs_same : (e : Event) (outs same : List Out) → AreOutsOf e outs → same ≡ outs → AreOutsOf e same
outs_same e outs same are is = subst (λ (l : List Out). AreOutsOf e l) (sym is) are

-- ---- books

-- what a desk saved that isn't spent is a book
pub saved_whole : (desk : Option Standing) (before items : List ℕ) → (desk ≡ None → ⊥) → before ≡ [] → ((s : Standing) → desk ≡ Some s → items ≡ before ++ book_text (saved_of s.book))
    → ((s : Standing) → desk ≡ Some s → IsSaved (saved_of s.book)) → (saved : Saved) × IsBook items saved
saved_whole None before items alive none text fits = absurd (alive refl)
saved_whole (Some s) before items alive none text fits =
    (saved_of s.book, record { is_saved = fits s refl; whole = text s refl ∙ ap (λ (l : List ℕ). l ++ book_text (saved_of s.book)) none })
