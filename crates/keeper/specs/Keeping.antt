-- What is kept of all workers, and the bytes that wait to be written: those of the current file, and those of the next one while it is
-- being begun.
use Rattle.std.specs.Prelude.{◌≡◌, ℕ, ◌+◌, Bool, true, false, not, List, [], ◌++◌, map, length, set, replicate, slice_get, Option, Some, None, option_map, unwrap_or, if◌then◌else◌}
use Rattle.std.specs.List.{list_all}
use Rattle.std.specs.Option.{option_map_or}
use Rattle.package.specs.Values.{MailChange}
use Rattle.notifier_model.specs.declared.event.Event.{Event}
use Rattle.notifier_model.specs.declared.saved.Saved.{Saved}
use Rattle.journal.specs.declared.header.Header.{Header}
use Rattle.journal.specs.declared.record.Line.{Line}
use Rattle.journal.specs.declared.record.Clock.{Clock}
use Rattle.journal.specs.declared.record.Told.{Told}
use Rattle.journal.specs.declared.record.Record.TheVariants.{Header as First, Handled, Line as Answered, Clock as Shown}
use Rattle.journal.specs.Records.{written, book_record}
use Rattle.keeper.specs.Told.{Kept, kept_from, told_of, told_event, forgotten, caught_up}

-- what is kept of each worker; what waits for the two files; and, while a next one is begun, of which workers it has the book
pub record State : Type 0 where
  pub workers : List Kept
  pub current : List ℕ
  pub next : List ℕ
  pub booked : Option (List Bool)

-- nothing waits, and no next file is begun
abbrev pub first : List Told → State
first told = record { workers = map kept_from told; current = []; next = []; booked = None }

-- something happens to a worker, if it is one of these
abbrev pub at_worker : ℕ → (Kept → State) → State → State
at_worker w change s = option_map_or change (slice_get s.workers w) s

-- the worker's book stands in the next file
abbrev pub has_book : ℕ → Option (List Bool) → Bool
has_book w booked = option_map_or (λ (b : List Bool). unwrap_or (slice_get b w) false) booked false

-- ---- records

-- A worker handled an event. Its record stands in the current file, and in the next one behind the worker's book.
abbrev pub with_handled : ℕ → Event → State → Kept → State
with_handled w event s k = record s {
  workers = set s.workers w (told_event event k);
  current = s.current ++ written (Handled w event);
  next = if has_book w s.booked then s.next ++ written (Handled w event) else s.next;
}

abbrev pub after_handled : ℕ → Event → State → State
after_handled w event s = at_worker w (with_handled w event s) s

-- the next line for a worker
abbrev pub next_line : ℕ → MailChange → Kept → Line
next_line w change k = record { worker = w; number = k.lines + 1; change = change }

abbrev pub one_line_more : Kept → Kept
one_line_more k = record k { lines = k.lines + 1 }

-- A control line is answered `ok`. It stands in one file alone.
abbrev pub with_answered : ℕ → MailChange → State → Kept → State
with_answered w change s k = record s {
  workers = set s.workers w (one_line_more k);
  current = s.current ++ written (Answered (next_line w change k));
}

abbrev pub after_answered : ℕ → MailChange → State → State
after_answered w change s = at_worker w (with_answered w change s) s

-- the worker changes so, and nothing is written
abbrev pub with_worker : ℕ → (Kept → Kept) → State → Kept → State
with_worker w change s k = record s { workers = set s.workers w (change k) }

-- an event was handled whose record couldn't be written
abbrev pub after_passed : ℕ → Event → State → State
after_passed w event s = at_worker w (with_worker w (told_event event) s) s

-- a line was answered whose record couldn't be written
abbrev pub after_counted : ℕ → State → State
after_counted w s = at_worker w (with_worker w one_line_more s) s

-- nobody watches these transfers of a worker any more
abbrev pub after_forgetting : ℕ → List (List ℕ) → State → State
after_forgetting w tags s = at_worker w (with_worker w (forgotten tags) s) s

abbrev pub after_clock : Clock → State → State
after_clock clock s = record s { current = s.current ++ written (Shown clock) }

-- ---- the next file

-- it begins with its header, and waits for the books of all
abbrev pub after_begin : Header → State → State
after_begin header s = record s { next = written (First header); booked = Some (replicate (length s.workers) false) }

-- the book of a worker, with what it was told by now
abbrev pub with_book : ℕ → Saved → State → Kept → State
with_book w saved s k = record s {
  next = s.next ++ written (book_record w (told_of k) saved);
  booked = option_map (λ (b : List Bool). set b w true) s.booked;
}

abbrev pub after_book : ℕ → Saved → State → State
after_book w saved s = at_worker w (with_book w saved s) s

-- a record that was made beside the keeper: of which worker, what that was told by then, and the bytes
pub record Made : Type 0 where
  pub worker : ℕ
  pub told : Told
  pub bytes : List ℕ

-- it is that of this book
pub record IsBookOf (w : ℕ) (told : Told) (saved : Saved) (made : Made) : Type 0 where
  pub of_worker : made.worker ≡ w
  pub by_then : made.told ≡ told
  pub record_is : made.bytes ≡ written (book_record w told saved)

-- the worker was told more or less by now
abbrev pub IsOutdated : Made → List Kept → Type 0
IsOutdated made workers = (k : Kept) → slice_get workers made.worker ≡ Some k → told_of k ≡ made.told → ⊥

abbrev pub itself : Bool → Bool
itself b = b

-- the next file has the book of each worker
abbrev pub is_whole : Option (List Bool) → Bool
is_whole booked = option_map_or (list_all itself) booked false

abbrev pub without_next : State → State
without_next s = record s { next = []; booked = None }

-- where it is whole the next file is the current one from now on
abbrev pub turned : State → State
turned s = if is_whole s.booked then record s { current = s.next; next = []; booked = None } else s

-- a next file is begun, and the book of this worker isn't there
abbrev pub wants_book : ℕ → Option (List Bool) → Bool
wants_book w booked = option_map_or (λ (b : List Bool). not (unwrap_or (slice_get b w) true)) booked false

-- ---- and the rest

-- what waited is written
abbrev pub cleared : State → State
cleared s = record s { current = []; next = [] }

-- each line for this worker that was answered is handled
abbrev pub after_catching_up : ℕ → State → State
after_catching_up w s = at_worker w (with_worker w caught_up s) s
