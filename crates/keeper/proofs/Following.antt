-- What the next file says behind calls, and both files as one.
use Rattle.std.proofs.Common.{◌≡◌, ◌∙◌, ℕ, ◌+◌, Bool, true, false, cond, List, [], ◌∷◌, ◌++◌, length, take, set, Option, Some, None, eqb, eq-eqb, refl, sym, ap, arith}
use Rattle.std.specs.Prelude.{slice_get, fold, unwrap_or, option_map}
use Rattle.std.specs.Option.{option_map_or}
use Rattle.std.proofs.lemmas.Bool.{eqb-true, eqb-false}
use Rattle.std.proofs.lemmas.List.{append-nil, length-append, take_at}
use Rattle.std.proofs.lemmas.List.Sums.{fold-append}
use Rattle.notifier_model.specs.declared.event.Event.{Event}
use Rattle.notifier_model.specs.declared.saved.Saved.{Saved}
use Rattle.journal.specs.declared.record.Record.TheVariants.{Handled}
use Rattle.journal.specs.Records.{book_record}
use Rattle.journal.specs.Generations.{Known, unknown, known, taken, after as noted}
use Rattle.journal.specs.Chains.{between}
use Rattle.keeper.specs.Told.{Kept, told_of, told_event, forgotten}
use Rattle.keeper.specs.Keeping.{State, has_book, with_handled, with_answered, with_book, with_worker}
use Rattle.keeper.specs.Laws.{Call, Handles, Answers, Shows, Books, Forgets, after, run, events_of, kept_after, HasNoBook, with_more, TheNextFileSaysWhatCameSince, BothFilesSayAllEvents}
use Rattle.keeper.proofs.Lists.{get_set_same, get_set_other}
use Rattle.keeper.proofs.Calls.{found, kept_one, kept_step, kept_run, put_next, all_put_next, all_put_next_bytes, all_put_next_then}
use Rattle.keeper.proofs.Saying.{with_same, nothing_more, more_and_more, one_event_more, noted_other}

-- ---- of which workers the next file has the book

-- what it says of a worker, while a next file is begun
abbrev at_mark : ℕ → Option (List Bool) → Option Bool
at_mark w booked = option_map_or (λ (b : List Bool). slice_get b w) booked None

abbrev mark : ℕ → State → Option Bool
mark w s = at_mark w s.booked

has_of_mark : (booked : Option (List Bool)) (w : ℕ) (x : Bool) → at_mark w booked ≡ Some x → has_book w booked ≡ x
has_of_mark None w x e = absurd cc
has_of_mark (Some b) w x e = ap (λ (o : Option Bool). unwrap_or o false) e

-- it isn't the book of this worker that is handed over
abbrev IsOther : ℕ → Call → Type 0
IsOther w (Handles v event) = Unit {0}
IsOther w (Answers v change) = Unit {0}
IsOther w (Shows clock) = Unit {0}
IsOther w (Books v saved) = eqb v w ≡ false
IsOther w (Forgets v tags) = Unit {0}

mark_step : (c : Call) (s : State) (w : ℕ) → IsOther w c → mark w (after s c) ≡ mark w s
mark_step (Handles v event) s w other = step (slice_get s.workers v) where
  step : (o : Option Kept) → mark w (option_map_or (with_handled v event s) o s) ≡ mark w s
  step None = refl
  step (Some k) = refl
mark_step (Answers v change) s w other = step (slice_get s.workers v) where
  step : (o : Option Kept) → mark w (option_map_or (with_answered v change s) o s) ≡ mark w s
  step None = refl
  step (Some k) = refl
mark_step (Shows clock) s w other = refl
mark_step (Books v saved) s w other = step (slice_get s.workers v) where
  marks : (booked : Option (List Bool)) → at_mark w (option_map (λ (b : List Bool). set b v true) booked) ≡ at_mark w booked
  marks None = refl
  marks (Some b) = get_set_other b v w true (eqb-false v w other)

  step : (o : Option Kept) → mark w (option_map_or (with_book v saved s) o s) ≡ mark w s
  step None = refl
  step (Some k) = marks s.booked
mark_step (Forgets v tags) s w other = step (slice_get s.workers v) where
  step : (o : Option Kept) → mark w (option_map_or (with_worker v (forgotten tags) s) o s) ≡ mark w s
  step None = refl
  step (Some k) = refl

mark_run : (cs : List Call) (s : State) (w : ℕ) → HasNoBook w cs → mark w (run s cs) ≡ mark w s
mark_run [] s w none = refl
mark_run (Handles v event ∷ cs) s w none = mark_run cs (after s (Handles v event)) w none ∙ mark_step (Handles v event) s w tt
mark_run (Answers v change ∷ cs) s w none = mark_run cs (after s (Answers v change)) w none ∙ mark_step (Answers v change) s w tt
mark_run (Shows clock ∷ cs) s w none = mark_run cs (after s (Shows clock)) w none
mark_run (Books v saved ∷ cs) s w none = mark_run cs (after s (Books v saved)) w none.1 ∙ mark_step (Books v saved) s w none.0
mark_run (Forgets v tags ∷ cs) s w none = mark_run cs (after s (Forgets v tags)) w none ∙ mark_step (Forgets v tags) s w tt

marked : (s : State) (w : ℕ) (k : Kept) (saved : Saved) → slice_get s.workers w ≡ Some k → mark w s ≡ Some false
    → mark w (after s (Books w saved)) ≡ Some true
marked s w k saved is m = ap (λ (o : Option Kept). mark w (option_map_or (with_book w saved s) o s)) is ∙ marks s.booked m where
  marks : (booked : Option (List Bool)) → at_mark w booked ≡ Some false → at_mark w (option_map (λ (b : List Bool). set b w true) booked) ≡ Some true
  marks None e = absurd cc
  marks (Some b) e = get_set_same b w false true e

-- ---- what one call puts there

module _ (w v : ℕ) (before : Known) (s : State) where
  event_mine : (k : Kept) (event : Event) (there : Bool) → slice_get s.workers w ≡ Some k → mark w s ≡ Some there → eqb v w ≡ true
      → fold (noted w) before (put_next s (Handles v event)) ≡ with_more before (cond there (event ∷ []) []) []
  event_mine k event there is m e =
      ap (λ (o : Option Kept). fold (noted w) before (option_map_or (λ (j : Kept). cond (has_book v s.booked) (Handled v event ∷ []) []) o [])) (found s v w k is e)
      ∙ ap (λ (b : Bool). fold (noted w) before (cond b (Handled v event ∷ []) [])) (ap (λ (n : ℕ). has_book n s.booked) (eqb-true v w e) ∙ has_of_mark s.booked w there m)
      ∙ step there where
        step : (b : Bool) → fold (noted w) before (cond b (Handled v event ∷ []) []) ≡ with_more before (cond b (event ∷ []) []) []
        step true =
            ap (λ (b : Bool). cond b (taken before (Handled v event)) before) e
            ∙ with_same before.book (before.events ++ event ∷ []) (before.events ++ event ∷ []) before.lines (before.lines ++ []) refl (sym (append-nil before.lines))
        step false = nothing_more before

  event_other : (event : Event) → eqb v w ≡ false → fold (noted w) before (put_next s (Handles v event)) ≡ before
  event_other event e = step (slice_get s.workers v) where
    there : (b : Bool) → fold (noted w) before (cond b (Handled v event ∷ []) []) ≡ before
    there true = noted_other w v before event e
    there false = refl

    step : (o : Option Kept) → fold (noted w) before (option_map_or (λ (j : Kept). cond (has_book v s.booked) (Handled v event ∷ []) []) o []) ≡ before
    step None = refl
    step (Some j) = there (has_book v s.booked)

  book_other : (saved : Saved) → eqb v w ≡ false → fold (noted w) before (put_next s (Books v saved)) ≡ before
  book_other saved e = step (slice_get s.workers v) where
    step : (o : Option Kept) → fold (noted w) before (option_map_or (λ (j : Kept). book_record v (told_of j) saved ∷ []) o []) ≡ before
    step None = refl
    step (Some j) = ap (λ (b : Bool). cond b (taken before (book_record v (told_of j) saved)) before) e

-- ---- and what all calls do

-- the events behind a book that is there, and none before it
abbrev if_there : Bool → List Event → List Event
if_there there events = cond there events []

said_next : (there : Bool) (w : ℕ) (cs : List Call) (s : State) (k : Kept) (before : Known) → slice_get s.workers w ≡ Some k → mark w s ≡ Some there
    → HasNoBook w cs → fold (noted w) before (all_put_next s cs) ≡ with_more before (if_there there (events_of w cs)) []
said_next there w [] s k before is m none = step there where
  step : (b : Bool) → before ≡ with_more before (cond b [] []) []
  step true = nothing_more before
  step false = nothing_more before
said_next there w (Handles v event ∷ cs) s k before is m none =
    fold-append (noted w) before (put_next s (Handles v event)) (all_put_next (after s (Handles v event)) cs)
    ∙ said_next there w cs (after s (Handles v event)) (kept_one w k (Handles v event)) (fold (noted w) before (put_next s (Handles v event)))
    (kept_step (Handles v event) s w k is) (mark_step (Handles v event) s w tt ∙ m) none
    ∙ step (eqb v w) refl where
      both : (b : Bool) → cond b (event ∷ []) [] ++ cond b (events_of w cs) [] ≡ cond b (event ∷ events_of w cs) []
      both true = refl
      both false = refl

      step : (b : Bool) → eqb v w ≡ b → with_more (fold (noted w) before (put_next s (Handles v event))) (if_there there (events_of w cs)) []
          ≡ with_more before (if_there there (cond b (event ∷ events_of w cs) (events_of w cs))) []
      step true e =
          ap (λ (x : Known). with_more x (if_there there (events_of w cs)) []) (event_mine w v before s k event there is m e)
          ∙ more_and_more before (cond there (event ∷ []) []) (if_there there (events_of w cs)) [] []
          ∙ ap (λ (es : List Event). with_more before es []) (both there)
      step false e = ap (λ (x : Known). with_more x (if_there there (events_of w cs)) []) (event_other w v before s event e)
said_next there w (Answers v change ∷ cs) s k before is m none =
    said_next there w cs (after s (Answers v change)) (kept_one w k (Answers v change)) before (kept_step (Answers v change) s w k is) (mark_step (Answers v change) s w tt ∙ m) none
said_next there w (Shows clock ∷ cs) s k before is m none = said_next there w cs (after s (Shows clock)) k before is m none
said_next there w (Books v saved ∷ cs) s k before is m none =
    fold-append (noted w) before (put_next s (Books v saved)) (all_put_next (after s (Books v saved)) cs)
    ∙ ap (λ (x : Known). fold (noted w) x (all_put_next (after s (Books v saved)) cs)) (book_other w v before s saved none.0)
    ∙ said_next there w cs (after s (Books v saved)) k before (kept_step (Books v saved) s w k is) (mark_step (Books v saved) s w none.0 ∙ m) none.1
said_next there w (Forgets v tags ∷ cs) s k before is m none =
    said_next there w cs (after s (Forgets v tags)) (kept_one w k (Forgets v tags)) before (kept_step (Forgets v tags) s w k is) (mark_step (Forgets v tags) s w tt ∙ m) none

book_mine : (w : ℕ) (s : State) (k : Kept) (saved : Saved) (before : Known) → slice_get s.workers w ≡ Some k
    → fold (noted w) before (put_next s (Books w saved)) ≡ record { book = Some (record { worker = w; told = told_of k; saved = saved }); events = []; lines = before.lines }
book_mine w s k saved before is =
    ap (λ (o : Option Kept). fold (noted w) before (option_map_or (λ (j : Kept). book_record w (told_of j) saved ∷ []) o [])) is
    ∙ ap (λ (b : Bool). cond b (taken before (book_record w (told_of k) saved)) before) (eq-eqb w w refl)

pub came_since : TheNextFileSaysWhatCameSince
came_since s booked early since before w k saved begun place is none_early none_since = record {
  records = all_put_next s (early ++ Books w saved ∷ since);
  next = all_put_next_bytes (early ++ Books w saved ∷ since) s;
  says = fold-append (noted w) unknown before (all_put_next s (early ++ Books w saved ∷ since))
      ∙ ap (fold (noted w) (known before w)) (all_put_next_then early (Books w saved ∷ since) s)
      ∙ fold-append (noted w) (known before w) (all_put_next s early) (all_put_next (run s early) (Books w saved ∷ since))
      ∙ ap (λ (x : Known). fold (noted w) x (all_put_next (run s early) (Books w saved ∷ since)))
      (said_next false w early s k (known before w) is m none_early ∙ sym (nothing_more (known before w)))
      ∙ later (known before w);
} where
  m : mark w s ≡ Some false
  m = ap (at_mark w) begun ∙ place

  kept : slice_get (run s early).workers w ≡ Some (kept_after w k early)
  kept = kept_run early s w k is

  later : (x : Known) → fold (noted w) x (all_put_next (run s early) (Books w saved ∷ since))
      ≡ record { book = Some (record { worker = w; told = told_of (kept_after w k early); saved = saved }); events = events_of w since; lines = x.lines }
  later x =
      fold-append (noted w) x (put_next (run s early) (Books w saved)) (all_put_next (after (run s early) (Books w saved)) since)
      ∙ said_next true w since (after (run s early) (Books w saved)) (kept_after w k early) (fold (noted w) x (put_next (run s early) (Books w saved)))
      (kept_step (Books w saved) (run s early) w (kept_after w k early) kept) (marked (run s early) w (kept_after w k early) saved kept (mark_run early s w none_early ∙ m)) none_since
      ∙ ap (λ (y : Known). with_more y (events_of w since) []) (book_mine w (run s early) (kept_after w k early) saved x kept)
      ∙ with_same (Some (record { worker = w; told = told_of (kept_after w k early); saved = saved })) (events_of w since) (events_of w since) (x.lines ++ []) x.lines refl (append-nil x.lines)

-- ---- both as one

counted : (w : ℕ) (cs : List Call) (k : Kept) → (kept_after w k cs).events ≡ k.events + length (events_of w cs)
counted w [] k = omega arith
counted w (Handles v event ∷ cs) k = step (eqb v w) (counted w cs (told_event event k)) (counted w cs k) where
  step : (b : Bool) → (kept_after w (told_event event k) cs).events ≡ (told_event event k).events + length (events_of w cs)
      → (kept_after w k cs).events ≡ k.events + length (events_of w cs)
      → (kept_after w (cond b (told_event event k) k) cs).events ≡ k.events + length (cond b (event ∷ events_of w cs) (events_of w cs))
  step true mine others = let one = one_event_more event k in omega (arith, mine, one)
  step false mine others = others
counted w (Answers v change ∷ cs) k = step (eqb v w) (counted w cs (record k { lines = k.lines + 1 })) (counted w cs k) where
  step : (b : Bool) → (kept_after w (record k { lines = k.lines + 1 }) cs).events ≡ k.events + length (events_of w cs)
      → (kept_after w k cs).events ≡ k.events + length (events_of w cs)
      → (kept_after w (cond b (record k { lines = k.lines + 1 }) k) cs).events ≡ k.events + length (events_of w cs)
  step true mine others = mine
  step false mine others = others
counted w (Shows clock ∷ cs) k = counted w cs k
counted w (Books v saved ∷ cs) k = counted w cs k
counted w (Forgets v tags ∷ cs) k = step (eqb v w) (counted w cs (forgotten tags k)) (counted w cs k) where
  step : (b : Bool) → (kept_after w (forgotten tags k) cs).events ≡ k.events + length (events_of w cs)
      → (kept_after w k cs).events ≡ k.events + length (events_of w cs)
      → (kept_after w (cond b (forgotten tags k) k) cs).events ≡ k.events + length (events_of w cs)
  step true mine others = mine
  step false mine others = others

pub both_say : BothFilesSayAllEvents
both_say w k early first more older newer count are told =
    let events : newer.book.told.events ≡ k.events + length (events_of w early) = ap (λ t. t.events) told ∙ counted w early k in
    let long : length (first ++ events_of w early) ≡ length first + length (events_of w early) = length-append first (events_of w early) in
    let all : length older.events ≡ length (first ++ events_of w early) + length more = ap length are ∙ length-append (first ++ events_of w early) more in
    let gap : length (first ++ events_of w early) ≡ between older newer = omega (arith, events, long, count) in
    record {
      follow = record { behind = omega (arith, events, count); whole = omega (arith, gap, all) };
      all = ap (λ (es : List Event). take (between older newer) es ++ newer.events) are
          ∙ ap (λ (es : List Event). es ++ newer.events) (take_at (first ++ events_of w early) more (between older newer) gap);
    }
