-- What calls leave of a worker, and what they put behind the files.
use Rattle.std.proofs.Common.{◌≡◌, ◌∙◌, ℕ, ◌+◌, Bool, true, false, cond, List, [], ◌∷◌, ◌++◌, set, Option, Some, None, eqb, refl, sym, ap, append_assoc}
use Rattle.std.specs.Prelude.{slice_get}
use Rattle.std.specs.Option.{option_map_or}
use Rattle.std.proofs.lemmas.Bool.{eqb-true, eqb-false}
use Rattle.std.proofs.lemmas.List.{append-nil}
use Rattle.std.proofs.lemmas.List.Concat.{flat_map-append}
use Rattle.journal.specs.declared.record.Record.{Record}
use Rattle.journal.specs.declared.record.Record.TheVariants.{Handled, Line as Answered, Clock as Shown}
use Rattle.journal.specs.Records.{file, written, book_record}
use Rattle.keeper.specs.Told.{Kept, told_of, told_event, forgotten}
use Rattle.keeper.specs.Keeping.{State, at_worker, has_book, next_line, with_handled, with_answered, with_book, with_worker}
use Rattle.keeper.specs.Laws.{Call, Handles, Answers, Shows, Books, Forgets, after, run, kept_after}
use Rattle.keeper.proofs.Lists.{get_set_same, get_set_other}

-- ---- what is kept of a worker

module _ (s : State) (v w : ℕ) (k : Kept) (is : slice_get s.workers w ≡ Some k) where
  pub found : eqb v w ≡ true → slice_get s.workers v ≡ Some k
  found e = ap (slice_get s.workers) (eqb-true v w e) ∙ is

  -- a call that changes the worker v
  module _ (change : Kept → Kept) (next : Kept → State) (sets : (j : Kept) → (next j).workers ≡ set s.workers v (change j)) where
    pub at_step : slice_get (at_worker v next s).workers w ≡ Some (cond (eqb v w) (change k) k)
    at_step = step (eqb v w) refl where
      mine : (o : Option Kept) → o ≡ Some k → v ≡ w → slice_get (option_map_or next o s).workers w ≡ Some (change k)
      mine None e same = absurd cc
      mine (Some j) e same =
          let is_k : j ≡ k = cc in
          let at_v : slice_get s.workers v ≡ Some k = ap (slice_get s.workers) same ∙ is in
          ap (λ (x : Kept). slice_get (next x).workers w) is_k ∙ ap (λ (ks : List Kept). slice_get ks w) (sets k)
          ∙ ap (slice_get (set s.workers v (change k))) (sym same) ∙ get_set_same s.workers v k (change k) at_v

      others : (o : Option Kept) → (v ≡ w → ⊥) → slice_get (option_map_or next o s).workers w ≡ Some k
      others None other = is
      others (Some j) other = ap (λ (ks : List Kept). slice_get ks w) (sets j) ∙ get_set_other s.workers v w (change j) other ∙ is

      step : (b : Bool) → eqb v w ≡ b → slice_get (at_worker v next s).workers w ≡ Some (cond b (change k) k)
      step true e = mine (slice_get s.workers v) (found e) (eqb-true v w e)
      step false e = others (slice_get s.workers v) (eqb-false v w e)

abbrev pub kept_one : ℕ → Kept → Call → Kept
kept_one w k (Handles v event) = cond (eqb v w) (told_event event k) k
kept_one w k (Answers v change) = cond (eqb v w) (record k { lines = k.lines + 1 }) k
kept_one w k (Shows clock) = k
kept_one w k (Books v saved) = k
kept_one w k (Forgets v tags) = cond (eqb v w) (forgotten tags k) k

pub kept_step : (c : Call) (s : State) (w : ℕ) (k : Kept) → slice_get s.workers w ≡ Some k → slice_get (after s c).workers w ≡ Some (kept_one w k c)
kept_step (Handles v event) s w k is = at_step s v w k is (told_event event) (with_handled v event s) (λ j. refl)
kept_step (Answers v change) s w k is = at_step s v w k is (λ (j : Kept). record j { lines = j.lines + 1 }) (with_answered v change s) (λ j. refl)
kept_step (Shows clock) s w k is = is
kept_step (Books v saved) s w k is = step (slice_get s.workers v) where
  step : (o : Option Kept) → slice_get (option_map_or (with_book v saved s) o s).workers w ≡ Some k
  step None = is
  step (Some j) = is
kept_step (Forgets v tags) s w k is = at_step s v w k is (forgotten tags) (with_worker v (forgotten tags) s) (λ j. refl)

pub kept_then : (c : Call) (cs : List Call) (w : ℕ) (k : Kept) → kept_after w k (c ∷ cs) ≡ kept_after w (kept_one w k c) cs
kept_then (Handles v event) cs w k = refl
kept_then (Answers v change) cs w k = refl
kept_then (Shows clock) cs w k = refl
kept_then (Books v saved) cs w k = refl
kept_then (Forgets v tags) cs w k = refl

pub kept_run : (cs : List Call) (s : State) (w : ℕ) (k : Kept) → slice_get s.workers w ≡ Some k → slice_get (run s cs).workers w ≡ Some (kept_after w k cs)
kept_run [] s w k is = is
kept_run (c ∷ cs) s w k is =
    kept_run cs (after s c) w (kept_one w k c) (kept_step c s w k is) ∙ ap (λ (j : Kept). Some j) (sym (kept_then c cs w k))

-- ---- what a call puts behind the current file

abbrev pub put : State → Call → List Record
put s (Handles v event) = option_map_or (λ (k : Kept). Handled v event ∷ []) (slice_get s.workers v) []
put s (Answers v change) = option_map_or (λ (k : Kept). Answered (next_line v change k) ∷ []) (slice_get s.workers v) []
put s (Shows clock) = Shown clock ∷ []
put s (Books v saved) = []
put s (Forgets v tags) = []

abbrev pub all_put : State → List Call → List Record
all_put s [] = []
all_put s (c ∷ cs) = put s c ++ all_put (after s c) cs

-- one record behind others
behind : (bytes : List ℕ) (r : Record) → bytes ++ written r ≡ bytes ++ file (r ∷ [])
behind bytes r = ap (λ (l : List ℕ). bytes ++ l) (sym (append-nil (written r)))

pub put_bytes : (c : Call) (s : State) → (after s c).current ≡ s.current ++ file (put s c)
put_bytes (Handles v event) s = step (slice_get s.workers v) where
  step : (o : Option Kept) → (option_map_or (with_handled v event s) o s).current ≡ s.current ++ file (option_map_or (λ (k : Kept). Handled v event ∷ []) o [])
  step None = sym (append-nil s.current)
  step (Some k) = behind s.current (Handled v event)
put_bytes (Answers v change) s = step (slice_get s.workers v) where
  step : (o : Option Kept) → (option_map_or (with_answered v change s) o s).current ≡ s.current ++ file (option_map_or (λ (k : Kept). Answered (next_line v change k) ∷ []) o [])
  step None = sym (append-nil s.current)
  step (Some k) = behind s.current (Answered (next_line v change k))
put_bytes (Shows clock) s = behind s.current (Shown clock)
put_bytes (Books v saved) s = step (slice_get s.workers v) where
  step : (o : Option Kept) → (option_map_or (with_book v saved s) o s).current ≡ s.current ++ []
  step None = sym (append-nil s.current)
  step (Some k) = sym (append-nil s.current)
put_bytes (Forgets v tags) s = step (slice_get s.workers v) where
  step : (o : Option Kept) → (option_map_or (with_worker v (forgotten tags) s) o s).current ≡ s.current ++ []
  step None = sym (append-nil s.current)
  step (Some k) = sym (append-nil s.current)

-- some bytes, some records, and more records behind them
joined_bytes : (a b c : List ℕ) (xs ys : List Record) → c ≡ b ++ file ys → b ≡ a ++ file xs → c ≡ a ++ file (xs ++ ys)
joined_bytes a b c xs ys e f =
    e ∙ ap (λ (l : List ℕ). l ++ file ys) f ∙ append_assoc a (file xs) (file ys)
    ∙ ap (λ (l : List ℕ). a ++ l) (sym (flat_map-append written xs ys))

pub all_put_bytes : (cs : List Call) (s : State) → (run s cs).current ≡ s.current ++ file (all_put s cs)
all_put_bytes [] s = sym (append-nil s.current)
all_put_bytes (c ∷ cs) s =
    joined_bytes s.current (after s c).current (run s (c ∷ cs)).current (put s c) (all_put (after s c) cs) (all_put_bytes cs (after s c)) (put_bytes c s)

-- ---- and behind the next one

abbrev pub put_next : State → Call → List Record
put_next s (Handles v event) = option_map_or (λ (k : Kept). cond (has_book v s.booked) (Handled v event ∷ []) []) (slice_get s.workers v) []
put_next s (Answers v change) = []
put_next s (Shows clock) = []
put_next s (Books v saved) = option_map_or (λ (k : Kept). book_record v (told_of k) saved ∷ []) (slice_get s.workers v) []
put_next s (Forgets v tags) = []

abbrev pub all_put_next : State → List Call → List Record
all_put_next s [] = []
all_put_next s (c ∷ cs) = put_next s c ++ all_put_next (after s c) cs

pub put_next_bytes : (c : Call) (s : State) → (after s c).next ≡ s.next ++ file (put_next s c)
put_next_bytes (Handles v event) s = step (slice_get s.workers v) where
  there : (b : Bool) → cond b (s.next ++ written (Handled v event)) s.next ≡ s.next ++ file (cond b (Handled v event ∷ []) [])
  there true = behind s.next (Handled v event)
  there false = sym (append-nil s.next)

  step : (o : Option Kept) → (option_map_or (with_handled v event s) o s).next
      ≡ s.next ++ file (option_map_or (λ (k : Kept). cond (has_book v s.booked) (Handled v event ∷ []) []) o [])
  step None = sym (append-nil s.next)
  step (Some k) = there (has_book v s.booked)
put_next_bytes (Answers v change) s = step (slice_get s.workers v) where
  step : (o : Option Kept) → (option_map_or (with_answered v change s) o s).next ≡ s.next ++ []
  step None = sym (append-nil s.next)
  step (Some k) = sym (append-nil s.next)
put_next_bytes (Shows clock) s = sym (append-nil s.next)
put_next_bytes (Books v saved) s = step (slice_get s.workers v) where
  step : (o : Option Kept) → (option_map_or (with_book v saved s) o s).next ≡ s.next ++ file (option_map_or (λ (k : Kept). book_record v (told_of k) saved ∷ []) o [])
  step None = sym (append-nil s.next)
  step (Some k) = behind s.next (book_record v (told_of k) saved)
put_next_bytes (Forgets v tags) s = step (slice_get s.workers v) where
  step : (o : Option Kept) → (option_map_or (with_worker v (forgotten tags) s) o s).next ≡ s.next ++ []
  step None = sym (append-nil s.next)
  step (Some k) = sym (append-nil s.next)

pub all_put_next_bytes : (cs : List Call) (s : State) → (run s cs).next ≡ s.next ++ file (all_put_next s cs)
all_put_next_bytes [] s = sym (append-nil s.next)
all_put_next_bytes (c ∷ cs) s =
    joined_bytes s.next (after s c).next (run s (c ∷ cs)).next (put_next s c) (all_put_next (after s c) cs) (all_put_next_bytes cs (after s c)) (put_next_bytes c s)

pub all_put_next_then : (cs ds : List Call) (s : State) → all_put_next s (cs ++ ds) ≡ all_put_next s cs ++ all_put_next (run s cs) ds
all_put_next_then [] ds s = refl
all_put_next_then (c ∷ cs) ds s =
    ap (λ (l : List Record). put_next s c ++ l) (all_put_next_then cs ds (after s c))
    ∙ sym (append_assoc (put_next s c) (all_put_next (after s c) cs) (all_put_next (run (after s c) cs) ds))
