-- What the keeper counts as told again behind the book of a worker.
use Rattle.std.proofs.Common.{◌≡◌, ℕ, Bool, true, false, cond, List, [], ◌∷◌, ◌++◌, fold, set, Option, None, Some, is_some, Result, Ok, Err, OnOk, OnErr, refl, sym, ap, ◌∙◌, inl, inr}
use Rattle.std.specs.Prelude.{slice_get}
use Rattle.std.specs.Option.{option_map_or}
use Rattle.std.proofs.lemmas.List.Sums.{fold-append}
use Rattle.std.specs.Int.NonZero.{non_zero_u32_get}
use Rattle.package.specs.Values.{MailChange}
use Rattle.notifier_model.specs.declared.event.Event.{Event}
use Rattle.notifier_model.specs.declared.event.Event.TheVariants.{Mail}
use Rattle.notifier_model.specs.declared.saved.Saved.{Saved}
use Rattle.keeper.specs.Told.{Kept, told_event}
use Rattle.keeper.specs.Keeping.{State, with_handled, with_worker, with_book, one_line_more, after_handled, after_counted, after_book, is_whole, turned}
use Rattle.service.specs.declared.made.Made.{Made}
use Rattle.service.specs.declared.volume.Volume.{Volume}
use Rattle.service.specs.declared.shelf.Shelf.{Shelf}
use Rattle.service.specs.Made.{worker_changes}
use Rattle.service.specs.Shelved.{told_again, all_told_again, followed, IsCutShort, IsFollowed}

-- ---- line after line

pub told_one : (worker : ℕ) (told : List MailChange) (change : MailChange) (first s mid new : State) → s ≡ all_told_again worker told first
    → mid ≡ after_handled worker (Mail change) s → new ≡ after_counted worker mid → new ≡ all_told_again worker (told ++ change ∷ []) first
told_one worker told change first s mid new was handled counted =
    counted ∙ ap (after_counted worker) (handled ∙ ap (after_handled worker (Mail change)) was) ∙ sym (fold-append (told_again worker) first told (change ∷ []))

pub cut_short : (worker : ℕ) (changes told rest : List MailChange) (first s new : State) → told ++ rest ≡ changes → s ≡ all_told_again worker told first
    → new ≡ s → IsCutShort worker changes first new
cut_short worker changes told rest first s new whole was same = (told, rest, sym whole, inl (same ∙ was))

pub cut_half : (worker : ℕ) (changes told rest : List MailChange) (change : MailChange) (first s mid new : State) → told ++ change ∷ rest ≡ changes
    → s ≡ all_told_again worker told first → mid ≡ after_handled worker (Mail change) s → new ≡ mid → IsCutShort worker changes first new
cut_half worker changes told rest change first s mid new whole was handled same =
    (told, change ∷ rest, sym whole, inr (same ∙ handled ∙ ap (after_handled worker (Mail change)) was))

pub cut_at_once : (worker : ℕ) (changes : List MailChange) (first : State) → IsCutShort worker changes first first
cut_at_once worker changes first = ([], changes, refl, inl refl)

-- ---- what is kept of all workers

changed : ℕ → (Kept → Kept) → List Kept → List Kept
changed worker f workers = option_map_or (λ (k : Kept). set workers worker (f k)) (slice_get workers worker) workers

handled_workers : (worker : ℕ) (event : Event) (s : State) → (after_handled worker event s).workers ≡ changed worker (told_event event) s.workers
unfolding changed
handled_workers worker event s = step (slice_get s.workers worker) where
  step : (o : Option Kept) → (option_map_or (with_handled worker event s) o s).workers
      ≡ option_map_or (λ (k : Kept). set s.workers worker (told_event event k)) o s.workers
  step None = refl
  step (Some k) = refl

counted_workers : (worker : ℕ) (s : State) → (after_counted worker s).workers ≡ changed worker one_line_more s.workers
unfolding changed
counted_workers worker s = step (slice_get s.workers worker) where
  step : (o : Option Kept) → (option_map_or (with_worker worker one_line_more s) o s).workers
      ≡ option_map_or (λ (k : Kept). set s.workers worker (one_line_more k)) o s.workers
  step None = refl
  step (Some k) = refl

told_same : (worker : ℕ) (change : MailChange) (s t : State) → s.workers ≡ t.workers → (told_again worker s change).workers ≡ (told_again worker t change).workers
told_same worker change s t same =
    counted_workers worker (after_handled worker (Mail change) s)
    ∙ ap (changed worker one_line_more) (handled_workers worker (Mail change) s ∙ ap (changed worker (told_event (Mail change))) same ∙ sym (handled_workers worker (Mail change) t))
    ∙ sym (counted_workers worker (after_handled worker (Mail change) t))

all_same : (worker : ℕ) (changes : List MailChange) (s t : State) → s.workers ≡ t.workers
    → (all_told_again worker changes s).workers ≡ (all_told_again worker changes t).workers
all_same worker [] s t same = same
all_same worker (change ∷ changes) s t same =
    all_same worker changes (told_again worker s change) (told_again worker t change) (told_same worker change s t same)

booked_workers : (worker : ℕ) (saved : Saved) (s : State) → (after_book worker saved s).workers ≡ s.workers
booked_workers worker saved s = step (slice_get s.workers worker) where
  step : (o : Option Kept) → (option_map_or (with_book worker saved s) o s).workers ≡ s.workers
  step None = refl
  step (Some k) = refl

pub put_same : {A E : Type 0} (put : Result A E) (worker : ℕ) (saved : Saved) (s new : State) → OnOk put (new ≡ after_book worker saved s)
    → OnErr put (new ≡ s) → new.workers ≡ s.workers
put_same (Ok a) worker saved s new is same = ap (λ (x : State). x.workers) is ∙ booked_workers worker saved s
put_same (Err e) worker saved s new is same = ap (λ (x : State). x.workers) same

pub turned_workers : (s : State) → (turned s).workers ≡ s.workers
turned_workers s = step (is_whole s.booked) where
  step : (b : Bool) → (cond b (record s { current = s.next; next = []; booked = None }) s).workers ≡ s.workers
  step true = refl
  step false = refl

-- ---- a book

-- it is put, what follows is told, and maybe the next file is the current one then
pub book_followed : (worker : ℕ) (old put told new : Shelf)
    → (is_some put.next ≡ true → put.keeper.workers ≡ old.keeper.workers) → put.made ≡ old.made → put.current.number ≡ old.current.number
    → (put.next ≡ None → told ≡ put) → (is_some told.next ≡ true → told.keeper.workers ≡ (followed worker put.made put.keeper).workers)
    → told.current.number ≡ put.current.number → (told.next ≡ None → new ≡ told) → new.keeper.workers ≡ told.keeper.workers
    → IsFollowed worker old new
book_followed worker old put told new workers made file none again file' stays same = cases put.next told.next refl refl where
  cases : (p q : Option Volume) → put.next ≡ p → told.next ≡ q → IsFollowed worker old new
  cases p None was is =
      inr (ap (λ (s : Shelf). s.next) (stays is) ∙ is, ap (λ (s : Shelf). s.current.number) (stays is) ∙ file' ∙ file)
  cases None (Some v) was is = absurd (let e : Some v ≡ None = sym is ∙ ap (λ (s : Shelf). s.next) (none was) ∙ was in cc)
  cases (Some u) (Some v) was is =
      inl (same ∙ again (ap is_some is) ∙ ap (λ (m : Made). (followed worker m put.keeper).workers) made
      ∙ all_same worker (worker_changes (non_zero_u32_get old.made.workers) worker old.made.told) put.keeper old.keeper (workers (ap is_some was)))
