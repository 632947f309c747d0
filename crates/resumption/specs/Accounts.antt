-- From what a journal says of a worker to where its desk stands.
--
-- A worker goes on where it stood: at its book, over all that it handled since, and over the control lines that waited for it. Its
-- packages are those of its book, which the book's own record of what they were told makes anew.
use Rattle.std.specs.Prelude.{ℕ, Bool, List, [], ◌++◌, map, filter, fold, None}
use Rattle.std.specs.List.{flat_map, enumerate_from}
use Rattle.package.specs.Content.{Seen}
use Rattle.notifier_model.specs.declared.event.Event.{Event}
use Rattle.notifier_model.specs.declared.event.Event.TheVariants as event
use Rattle.notifier_model.specs.declared.event.Out.{Out}
use Rattle.notifier_model.specs.Book as book
use Rattle.notifier_model.specs.Out.{out_of}
use Rattle.notifier_model.specs.Run.{made_from, run_from}
use Rattle.notifier_model.specs.Saved.{book_with}
use Rattle.notifier_model.specs.Start.{place_of}
use Rattle.notifier.specs.Standing.{Standing}
use Rattle.restarts.specs.Restarts.{is_open}
use Rattle.journal.specs.declared.record.Book.{Book}
use Rattle.journal.specs.declared.record.Told.{Told}
use Rattle.journal.specs.declared.record.Record.TheVariants.{Handled}
use Rattle.journal.specs.declared.file.Account.{Account}
use Rattle.journal.specs.Records.{written}
use Rattle.keeper.specs.Told.{Kept, kept_from, told_event, caught_up}
use Rattle.keeper.specs.Keeping.{State}
use Rattle.resumption.specs.declared.desks.Worked.{Worked}
use Rattle.resumption.specs.Told.{held_names, boxes_told, watched}

-- ---- a worker

-- its packages, as they were at its book
abbrev pub boxes_then : Bool → Book → List Seen
boxes_then no_refer b = boxes_told no_refer (held_names b.told.mail) b.told b.saved.rows

-- the lines that waited for it, as the events that they are
abbrev pub lines_of : Account → List Event
lines_of a = map (λ c. event.Mail c) a.lines

-- what it handled since its book, and then the lines that waited for it
abbrev pub events_since : Account → List Event
events_since a = a.events ++ lines_of a

abbrev pub book_then : Worked → Account → book.Book
book_then worked a = book_with a.book.saved (boxes_then worked.no_refer a.book)

-- where the desk of this worker stands: where it stood when its service was killed, and over the lines that waited for it
abbrev pub stands : Worked → ℕ → Account → Standing
stands worked worker a = record {
  place = place_of worked.setup worker;
  book = run_from (place_of worked.setup worker) (book_then worked a) (events_since a);
}

-- and which of its NOTIFYs since its book nobody has answered
abbrev pub unanswered : Worked → ℕ → Account → List Out
unanswered worked worker a =
    filter (is_open (stands worked worker a).book.rows) (map out_of (made_from (place_of worked.setup worker) (book_then worked a) (events_since a)))

-- what it had been told at its book, of transfers that it watched
abbrev pub told_then : Account → Told
told_then a = record {
  events = a.book.told.events;
  mails = a.book.told.mails;
  mail = a.book.told.mail;
  progress = watched a.book.saved.rows a.book.told.progress;
}

-- what was told to it by now, and counted
abbrev pub kept_then : Account → Kept
kept_then a = caught_up (fold (λ (k : Kept) e. told_event e k) (kept_from (told_then a)) (events_since a))

-- what is to be written of it: that it handles the lines now
abbrev pub lines_written : ℕ → Account → List ℕ
lines_written worker a = flat_map (λ e. written (Handled worker e)) (lines_of a)

-- ---- all workers, by their numbers

abbrev pub numbered : List Account → List (ℕ × Account)
numbered accounts = enumerate_from 0 accounts

abbrev pub all_stand : Worked → List Account → List Standing
all_stand worked accounts = map (λ n. stands worked n.0 n.1) (numbered accounts)

abbrev pub all_unanswered : Worked → List Account → List Out
all_unanswered worked accounts = flat_map (λ n. unanswered worked n.0 n.1) (numbered accounts)

-- what a keeper knows behind the replay, and what waits in it to be written
abbrev pub all_kept : List Account → State
all_kept accounts = record {
  workers = map kept_then accounts;
  current = flat_map (λ n. lines_written n.0 n.1) (numbered accounts);
  next = [];
  booked = None;
}
