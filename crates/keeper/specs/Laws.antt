-- What the files say of each worker, whatever calls came.
use Rattle.std.specs.Prelude.{◌≡◌, ℕ, ◌+◌, ◌≤◌, Bool, true, false, ◌==◌, List, [], ◌∷◌, ◌++◌, length, fold, drop, slice_get, Some, if◌then◌else◌, bytes_eq}
use Rattle.std.specs.List.{list_any, IsDistinct}
use Rattle.package.specs.Values.{MailChange}
use Rattle.notifier_model.specs.declared.event.Event.{Event}
use Rattle.notifier_model.specs.declared.saved.Saved.{Saved}
use Rattle.journal.specs.declared.record.Line.{Line}
use Rattle.journal.specs.declared.record.Clock.{Clock}
use Rattle.journal.specs.declared.record.Record.{Record}
use Rattle.journal.specs.declared.file.Account.{Account}
use Rattle.journal.specs.Records.{file}
use Rattle.journal.specs.Chains.{Follows, joined}
use Rattle.journal.specs.Generations.{Known, known, waiting}
use Rattle.keeper.specs.Told.{Kept, told_of, told_event, transfers, forgotten}
use Rattle.keeper.specs.Keeping.{State, after_handled, after_answered, after_clock, after_book, after_forgetting}

-- what is kept while one file is the current one, and no next one is begun or given up
pub data Call : Type 0 where
  Handles : (worker : ℕ) (event : Event) → Call
  Answers : (worker : ℕ) (change : MailChange) → Call
  Shows : (clock : Clock) → Call
  Books : (worker : ℕ) (saved : Saved) → Call
  Forgets : (worker : ℕ) (tags : List (List ℕ)) → Call

abbrev pub after : State → Call → State
after s (Handles w event) = after_handled w event s
after s (Answers w change) = after_answered w change s
after s (Shows clock) = after_clock clock s
after s (Books w saved) = after_book w saved s
after s (Forgets w tags) = after_forgetting w tags s

abbrev pub run : State → List Call → State
run s calls = fold after s calls

-- ---- what came to a worker

abbrev pub if_of : {X : Type 0} → ℕ → ℕ → X → List X → List X
if_of v w x xs = if v == w then x ∷ xs else xs

-- the events that it handled
abbrev pub events_of : ℕ → List Call → List Event
events_of w [] = []
events_of w (Handles v event ∷ calls) = if_of v w event (events_of w calls)
events_of w (Answers v change ∷ calls) = events_of w calls
events_of w (Shows clock ∷ calls) = events_of w calls
events_of w (Books v saved ∷ calls) = events_of w calls
events_of w (Forgets v tags ∷ calls) = events_of w calls

-- the changes of the lines that were answered
abbrev pub changes_of : ℕ → List Call → List MailChange
changes_of w [] = []
changes_of w (Handles v event ∷ calls) = changes_of w calls
changes_of w (Answers v change ∷ calls) = if_of v w change (changes_of w calls)
changes_of w (Shows clock ∷ calls) = changes_of w calls
changes_of w (Books v saved ∷ calls) = changes_of w calls
changes_of w (Forgets v tags ∷ calls) = changes_of w calls

-- these lines, numbered from the one behind n
abbrev pub numbered : ℕ → ℕ → List MailChange → List Line
numbered w n [] = []
numbered w n (change ∷ changes) = (record { worker = w; number = n + 1; change = change }) ∷ numbered w (n + 1) changes

-- what is kept of it then
abbrev pub kept_after : ℕ → Kept → List Call → Kept
kept_after w k [] = k
kept_after w k (Handles v event ∷ calls) = kept_after w (if v == w then told_event event k else k) calls
kept_after w k (Answers v change ∷ calls) = kept_after w (if v == w then record k { lines = k.lines + 1 } else k) calls
kept_after w k (Shows clock ∷ calls) = kept_after w k calls
kept_after w k (Books v saved ∷ calls) = kept_after w k calls
kept_after w k (Forgets v tags ∷ calls) = kept_after w (if v == w then forgotten tags k else k) calls

-- no book of it is handed over
abbrev pub HasNoBook : ℕ → List Call → Type 0
HasNoBook w [] = Unit {0}
HasNoBook w (Handles v event ∷ calls) = HasNoBook w calls
HasNoBook w (Answers v change ∷ calls) = HasNoBook w calls
HasNoBook w (Shows clock ∷ calls) = HasNoBook w calls
HasNoBook w (Books v saved ∷ calls) = ((v == w) ≡ false) × HasNoBook w calls
HasNoBook w (Forgets v tags ∷ calls) = HasNoBook w calls

-- ---- the current file

-- what is known of a worker, with these events and lines more
abbrev pub with_more : Known → List Event → List Line → Known
with_more k events lines = record { book = k.book; events = k.events ++ events; lines = k.lines ++ lines }

-- behind what the file said before it says of a worker all that came since, in its order: each event that it handled, and each line that
-- was answered, with the next numbers
pub record SaysWhatCame (s : State) (calls : List Call) (before : List Record) (w : ℕ) (k : Kept) : Type 0 where
  pub records : List Record
  pub current : (run s calls).current ≡ s.current ++ file records
  pub says : known (before ++ records) w ≡ with_more (known before w) (events_of w calls) (numbered w k.lines (changes_of w calls))

abbrev pub TheCurrentFileSaysWhatCame : Type 0
TheCurrentFileSaysWhatCame =
    (s : State) (calls : List Call) (before : List Record) (w : ℕ) (k : Kept) → slice_get s.workers w ≡ Some k → SaysWhatCame s calls before w k

-- of lines that are numbered from the one behind n those wait of which fewer were handled
abbrev pub WhatWaitsWasNotHandled : Type 0
WhatWaitsWasNotHandled = (w n mails : ℕ) (changes : List MailChange) → waiting (n + mails) (numbered w n changes) ≡ drop mails changes

-- ---- the next file

-- of a worker whose book isn't there yet it says the book that is handed over, with what the worker was told by then, and all events since
pub record SaysWhatCameSince (s : State) (early since : List Call) (before : List Record) (w : ℕ) (k : Kept) (saved : Saved) : Type 0 where
  pub records : List Record
  pub next : (run s (early ++ Books w saved ∷ since)).next ≡ s.next ++ file records
  pub says : known (before ++ records) w ≡ record {
    book = Some (record { worker = w; told = told_of (kept_after w k early); saved = saved });
    events = events_of w since;
    lines = (known before w).lines;
  }

abbrev pub TheNextFileSaysWhatCameSince : Type 0
TheNextFileSaysWhatCameSince =
    (s : State) (booked : List Bool) (early since : List Call) (before : List Record) (w : ℕ) (k : Kept) (saved : Saved)
    → s.booked ≡ Some booked → slice_get booked w ≡ Some false → slice_get s.workers w ≡ Some k
    → HasNoBook w early → HasNoBook w since → SaysWhatCameSince s early since before w k saved

-- ---- both as one

-- The older file has the events that a worker handled before its book stood in the newer one, and more behind them. Then what both say as one
-- is these, and the newer file's events behind them.
pub record AreAllEvents (w : ℕ) (k : Kept) (early : List Call) (first : List Event) (older newer : Account) : Type 0 where
  pub follow : Follows older newer
  pub all : (joined older newer).events ≡ (first ++ events_of w early) ++ newer.events

abbrev pub BothFilesSayAllEvents : Type 0
BothFilesSayAllEvents =
    (w : ℕ) (k : Kept) (early : List Call) (first more : List Event) (older newer : Account)
    → k.events ≡ older.book.told.events + length first → older.events ≡ (first ++ events_of w early) ++ more
    → newer.book.told ≡ told_of (kept_after w k early) → AreAllEvents w k early first older newer

-- ---- how much is kept

-- of no transfer it has two steps
abbrev pub HasOneOfEach : Kept → Type 0
HasOneOfEach k = IsDistinct bytes_eq (transfers k)

abbrev pub OneStepOfEachIsKept : Type 0
OneStepOfEachIsKept = (w : ℕ) (k : Kept) (calls : List Call) → HasOneOfEach k → HasOneOfEach (kept_after w k calls)

-- each of its steps is of a transfer with one of these tags
abbrev pub AreOf : List (List ℕ) → Kept → Type 0
AreOf tags k = (tag : List ℕ) → list_any (bytes_eq tag) (transfers k) ≡ true → list_any (bytes_eq tag) tags ≡ true

-- Once those are forgotten that are gone, so many steps are kept at most as transfers live, and as events came since.
abbrev pub FewStepsAreKept : Type 0
FewStepsAreKept =
    (w : ℕ) (k : Kept) (calls : List Call) (live gone : List (List ℕ)) → HasOneOfEach k → AreOf (live ++ gone) k
    → length (kept_after w k (Forgets w gone ∷ calls)).steps ≤ length live + length (events_of w calls)
