-- What the current file says behind calls.
use Rattle.std.proofs.Common.{◌≡◌, ◌∙◌, ℕ, zero, suc, ◌+◌, ◌≤◌, Bool, true, false, cond, List, [], ◌∷◌, ◌++◌, Option, Some, None, eqb, refl, sym, ap, append_assoc, arith}
use Rattle.std.specs.Prelude.{slice_get, fold, nat_lt}
use Rattle.std.specs.Option.{option_map_or}
use Rattle.std.proofs.lemmas.Bool.{eqb-true}
use Rattle.std.proofs.lemmas.List.{append-nil}
use Rattle.std.proofs.lemmas.List.Sums.{fold-append}
use Rattle.std.proofs.lemmas.Bool.Decides.{nat_tests}
use Rattle.package.specs.Values.{MailChange}
use Rattle.notifier_model.specs.declared.event.Event.{Event}
use Rattle.notifier_model.specs.declared.event.Event.TheVariants.{Request as Comes, Reply, Mail, Progress as Goes, Tick, Shut}
use Rattle.journal.specs.declared.record.Book.{Book}
use Rattle.journal.specs.declared.record.Line.{Line}
use Rattle.journal.specs.declared.record.Record.TheVariants.{Handled, Line as Answered}
use Rattle.journal.specs.Generations.{Known, unknown, known, taken, after as noted, waiting}
use Rattle.keeper.specs.Told.{Kept, told_event, forgotten}
use Rattle.keeper.specs.Keeping.{State, next_line}
use Rattle.keeper.specs.Laws.{Call, Handles, Answers, Shows, Books, Forgets, after, events_of, changes_of, numbered, with_more, TheCurrentFileSaysWhatCame, WhatWaitsWasNotHandled}
use Rattle.keeper.proofs.Calls.{found, kept_one, kept_step, put, all_put, all_put_bytes}

same_lines : (event : Event) (k : Kept) → (told_event event k).lines ≡ k.lines
same_lines (Comes source request) k = refl
same_lines (Reply response) k = refl
same_lines (Mail m) k = refl
same_lines (Goes p) k = refl
same_lines (Tick second) k = refl
same_lines Shut k = refl

pub one_event_more : (event : Event) (k : Kept) → (told_event event k).events ≡ k.events + 1
one_event_more (Comes source request) k = refl
one_event_more (Reply response) k = refl
one_event_more (Mail m) k = refl
one_event_more (Goes p) k = refl
one_event_more (Tick second) k = refl
one_event_more Shut k = refl

pub with_same : (book : Option Book) (es fs : List Event) (ls ms : List Line) → es ≡ fs → ls ≡ ms
    → ◌≡◌ {A = Known} (record { book = book; events = es; lines = ls }) (record { book = book; events = fs; lines = ms })
with_same book es fs ls ms p q = λ i. record { book = book; events = p i; lines = q i }

pub nothing_more : (before : Known) → before ≡ with_more before [] []
nothing_more before = with_same before.book before.events (before.events ++ []) before.lines (before.lines ++ []) (sym (append-nil before.events)) (sym (append-nil before.lines))

-- a record of another worker
pub noted_other : (w v : ℕ) (before : Known) (event : Event) → eqb v w ≡ false → noted w before (Handled v event) ≡ before
noted_other w v before event e = ap (λ (b : Bool). cond b (taken before (Handled v event)) before) e

-- ---- the current file

module _ (w v : ℕ) (before : Known) (s : State) (k : Kept) (is : slice_get s.workers w ≡ Some k) where
  event_put : (event : Event) → eqb v w ≡ true → fold (noted w) before (put s (Handles v event)) ≡ with_more before (event ∷ []) []
  event_put event e =
      ap (λ (o : Option Kept). fold (noted w) before (option_map_or (λ (j : Kept). Handled v event ∷ []) o [])) (found s v w k is e)
      ∙ ap (λ (b : Bool). cond b (taken before (Handled v event)) before) e
      ∙ with_same before.book (before.events ++ event ∷ []) (before.events ++ event ∷ []) before.lines (before.lines ++ []) refl (sym (append-nil before.lines))

  event_other : (event : Event) → eqb v w ≡ false → fold (noted w) before (put s (Handles v event)) ≡ before
  event_other event e = step (slice_get s.workers v) where
    step : (o : Option Kept) → fold (noted w) before (option_map_or (λ (j : Kept). Handled v event ∷ []) o []) ≡ before
    step None = refl
    step (Some j) = noted_other w v before event e

  line_put : (change : MailChange) → eqb v w ≡ true → fold (noted w) before (put s (Answers v change)) ≡ with_more before [] (next_line w change k ∷ [])
  line_put change e =
      ap (λ (o : Option Kept). fold (noted w) before (option_map_or (λ (j : Kept). Answered (next_line v change j) ∷ []) o [])) (found s v w k is e)
      ∙ ap (λ (b : Bool). cond b (taken before (Answered (next_line v change k))) before) e
      ∙ with_same before.book before.events (before.events ++ []) (before.lines ++ next_line v change k ∷ []) (before.lines ++ next_line w change k ∷ []) (sym (append-nil before.events))
      (ap (λ (n : ℕ). before.lines ++ next_line n change k ∷ []) (eqb-true v w e))

  line_other : (change : MailChange) → eqb v w ≡ false → fold (noted w) before (put s (Answers v change)) ≡ before
  line_other change e = step (slice_get s.workers v) where
    step : (o : Option Kept) → fold (noted w) before (option_map_or (λ (j : Kept). Answered (next_line v change j) ∷ []) o []) ≡ before
    step None = refl
    step (Some j) = ap (λ (b : Bool). cond b (taken before (Answered (next_line v change j))) before) e

-- more, and more behind it
pub more_and_more : (before : Known) (es fs : List Event) (ls ms : List Line) → with_more (with_more before es ls) fs ms ≡ with_more before (es ++ fs) (ls ++ ms)
more_and_more before es fs ls ms = with_same before.book ((before.events ++ es) ++ fs) (before.events ++ (es ++ fs)) ((before.lines ++ ls) ++ ms) (before.lines ++ (ls ++ ms))
    (append_assoc before.events es fs) (append_assoc before.lines ls ms)

said : (w : ℕ) (cs : List Call) (s : State) (k : Kept) (before : Known) → slice_get s.workers w ≡ Some k
    → fold (noted w) before (all_put s cs) ≡ with_more before (events_of w cs) (numbered w k.lines (changes_of w cs))
said w [] s k before is = nothing_more before
said w (Handles v event ∷ cs) s k before is =
    fold-append (noted w) before (put s (Handles v event)) (all_put (after s (Handles v event)) cs)
    ∙ said w cs (after s (Handles v event)) (kept_one w k (Handles v event)) (fold (noted w) before (put s (Handles v event))) (kept_step (Handles v event) s w k is)
    ∙ step (eqb v w) refl where
      step : (b : Bool) → eqb v w ≡ b
          → with_more (fold (noted w) before (put s (Handles v event))) (events_of w cs) (numbered w (cond b (told_event event k) k).lines (changes_of w cs))
          ≡ with_more before (cond b (event ∷ events_of w cs) (events_of w cs)) (numbered w k.lines (changes_of w cs))
      step true e =
          ap (λ (x : Known). with_more x (events_of w cs) (numbered w (told_event event k).lines (changes_of w cs))) (event_put w v before s k is event e)
          ∙ more_and_more before (event ∷ []) (events_of w cs) [] (numbered w (told_event event k).lines (changes_of w cs))
          ∙ ap (λ (n : ℕ). with_more before (event ∷ events_of w cs) (numbered w n (changes_of w cs))) (same_lines event k)
      step false e = ap (λ (x : Known). with_more x (events_of w cs) (numbered w k.lines (changes_of w cs))) (event_other w v before s k is event e)
said w (Answers v change ∷ cs) s k before is =
    fold-append (noted w) before (put s (Answers v change)) (all_put (after s (Answers v change)) cs)
    ∙ said w cs (after s (Answers v change)) (kept_one w k (Answers v change)) (fold (noted w) before (put s (Answers v change))) (kept_step (Answers v change) s w k is)
    ∙ step (eqb v w) refl where
      step : (b : Bool) → eqb v w ≡ b
          → with_more (fold (noted w) before (put s (Answers v change))) (events_of w cs) (numbered w (cond b (record k { lines = k.lines + 1 }) k).lines (changes_of w cs))
          ≡ with_more before (events_of w cs) (numbered w k.lines (cond b (change ∷ changes_of w cs) (changes_of w cs)))
      step true e =
          ap (λ (x : Known). with_more x (events_of w cs) (numbered w (k.lines + 1) (changes_of w cs))) (line_put w v before s k is change e)
          ∙ more_and_more before [] (events_of w cs) (next_line w change k ∷ []) (numbered w (k.lines + 1) (changes_of w cs))
      step false e = ap (λ (x : Known). with_more x (events_of w cs) (numbered w k.lines (changes_of w cs))) (line_other w v before s k is change e)
said w (Shows clock ∷ cs) s k before is = said w cs (after s (Shows clock)) k before is
said w (Books v saved ∷ cs) s k before is = said w cs (after s (Books v saved)) k before (kept_step (Books v saved) s w k is)
said w (Forgets v tags ∷ cs) s k before is =
    said w cs (after s (Forgets v tags)) (kept_one w k (Forgets v tags)) before (kept_step (Forgets v tags) s w k is)
    ∙ ap (λ (n : ℕ). with_more before (events_of w cs) (numbered w n (changes_of w cs))) (step (eqb v w)) where
      step : (b : Bool) → (cond b (forgotten tags k) k).lines ≡ k.lines
      step true = refl
      step false = refl

pub what_came : TheCurrentFileSaysWhatCame
what_came s cs before w k is = record {
  records = all_put s cs;
  current = all_put_bytes cs s;
  says = fold-append (noted w) unknown before (all_put s cs) ∙ said w cs s k (known before w) is;
}

-- ---- lines that wait

all_wait : (w h n : ℕ) (cs : List MailChange) → h ≤ n → waiting h (numbered w n cs) ≡ cs
all_wait w h n [] le = refl
all_wait w h n (c ∷ cs) le =
    let test : nat_lt h (n + 1) ≡ true = grind (arith, nat_tests) in
    rw test (ap (λ (l : List MailChange). c ∷ l) (all_wait w h (n + 1) cs (omega (arith, le))))

pub what_waits : WhatWaitsWasNotHandled
what_waits w n zero changes = all_wait w (n + 0) n changes (omega arith)
what_waits w n (suc m) [] = refl
what_waits w n (suc m) (c ∷ cs) =
    let test : nat_lt (n + suc m) (n + 1) ≡ false = grind (arith, nat_tests) in
    let sum : n + suc m ≡ (n + 1) + m = omega arith in
    rw test (ap (λ (h : ℕ). waiting h (numbered w (n + 1) cs)) sum ∙ what_waits w (n + 1) m cs)
