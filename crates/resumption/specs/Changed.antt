-- Desks that don't go on as they stood in a journal: with other mailboxes or limits, with numbers that leap, or not at all.
use Rattle.std.specs.Prelude.{ℕ, ◌+◌, min, max, Bool, not, List, [], ◌++◌, map, filter, fold, take, Option, Some, None, option_map, if◌then◌else◌}
use Rattle.std.specs.List.{flat_map, enumerate_from, zip}
use Rattle.package.specs.declared.change.Change.{Change}
use Rattle.package.specs.Content.{Seen, finite_maps}
use Rattle.subscription.specs.declared.notify.Reason.{Reason}
use Rattle.subscription.specs.declared.notify.Reason.TheVariants.{Noresource, Deactivated}
use Rattle.notifier_model.specs.declared.event.Event.TheVariants.{Shut}
use Rattle.notifier_model.specs.declared.event.Out.{Out}
use Rattle.notifier_model.specs.declared.row.Row.{Row}
use Rattle.notifier_model.specs.declared.saved.Saved.{Saved}
use Rattle.notifier_model.specs.Book.{step}
use Rattle.notifier_model.specs.Out.{out_of}
use Rattle.notifier_model.specs.Rows.{Telling, ends}
use Rattle.notifier_model.specs.Saved.{book_with}
use Rattle.notifier_model.specs.Start.{place_of}
use Rattle.notifier.specs.Standing.{Standing}
use Rattle.notifier.specs.Written.{saved_of}
use Rattle.restarts.specs.Ahead.{book_ahead, left_out}
use Rattle.restarts.specs.Withdrawn.{is_held, book_where}
use Rattle.arguments.specs.Setup.{dealt_names}
use Rattle.journal.specs.declared.record.Told.{Told}
use Rattle.keeper.specs.Told.{Kept, told_of}
use Rattle.resumption.specs.declared.changed.Wish.{Wish}
use Rattle.resumption.specs.Told.{mails, told_with, boxes_told}

-- ---- a planned end

-- what a desk makes of it: each subscription's last NOTIFY (RFC 6665 section 4.1.3); a desk that is spent makes nothing
abbrev pub shut_outs : Option Standing → List Out
shut_outs None = []
shut_outs (Some s) = map out_of (step s.place s.book Shut).outs

abbrev pub all_shut : List (Option Standing) → List Out
all_shut desks = flat_map shut_outs desks

-- ---- a part goes on

-- the last NOTIFYs of these rows
abbrev pub farewells : Telling finite_maps → Reason → List Row → List Out
farewells t reason rows = map out_of (flat_map (λ row. (ends t reason row).notifies) rows)

-- those go on whose resource the boxes hold
abbrev pub held_part : List Seen → Saved → Saved
held_part boxes book = book_where (is_held boxes) book

-- where the end of what was handled may be lost, their numbers leap
abbrev pub part : Bool → List Seen → Saved → Saved
part is_lost boxes book = if is_lost then book_ahead (held_part boxes book) else held_part boxes book

-- the others end for want of their resource, and those that have no numbers for a leap with `deactivated`
abbrev pub held_outs : Telling finite_maps → Saved → List Out
held_outs t book = farewells t Noresource (filter (λ row. not (is_held t.boxes row)) book.rows)

abbrev pub part_outs : Bool → Telling finite_maps → Saved → List Out
part_outs is_lost t book =
    if is_lost then held_outs t book ++ farewells t Deactivated (left_out (held_part t.boxes book).rows) else held_outs t book

-- of the kept answers the newest, as many as these limits keep
abbrev pub with_room : ℕ → Saved → Saved
with_room kept book = record book { ring = take kept book.ring }

-- ---- a desk from now on

-- the mailboxes that are dealt to it
abbrev pub names_now : Wish → ℕ → List (List ℕ)
names_now wish worker = dealt_names wish.workers worker wish.mailboxes.now

-- its packages: these mailboxes, with what was told of them, and the transfers that its rows watch
abbrev pub boxes_now : Wish → ℕ → Told → Saved → List Seen
boxes_now wish worker told book = boxes_told wish.work.now.no_refer (names_now wish worker) told book.rows

-- from what the last NOTIFYs are told
abbrev pub telling_now : Wish → ℕ → Told → Saved → Telling finite_maps
telling_now wish worker told book =
    record { place = place_of wish.work.now.setup worker; boxes = boxes_now wish worker told book; clock = book.clock }

abbrev pub carried_book : Wish → ℕ → Told → Bool → Saved → Saved
carried_book wish worker told is_lost book = with_room wish.work.now.setup.limits.kept (part is_lost (boxes_now wish worker told book) book)

-- where a desk stands that goes on from this book
abbrev pub carried_from : Wish → ℕ → Told → Bool → Saved → Standing
carried_from wish worker told is_lost book = record {
  place = place_of wish.work.now.setup worker;
  book = book_with (carried_book wish worker told is_lost book) (boxes_now wish worker told book);
}

-- and from the book of one that stood so
abbrev pub carried : Wish → ℕ → Told → Bool → Option Standing → Option Standing
carried wish worker told is_lost stood = option_map (λ (s : Standing). carried_from wish worker told is_lost (saved_of s.book)) stood

-- what is sent first of it
abbrev pub carried_outs : Wish → ℕ → Told → Bool → Option Standing → List Out
carried_outs wish worker told is_lost None = []
carried_outs wish worker told is_lost (Some s) = part_outs is_lost (telling_now wish worker told (saved_of s.book)) (saved_of s.book)

-- What was told to it, as its new file has it. One event more is counted than stands in the older one: so that nobody takes that for
-- the one before.
abbrev pub told_since : List (List ℕ) → Told → Told
told_since names told = record {
  events = min (told.events + 1) 18446744073709551615;
  mails = told.mails;
  mail = (told_with names (mails told.mail)).mail;
  progress = told.progress;
}

-- what workers were told of mailboxes
abbrev pub all_mails : List Kept → List Change
all_mails kept = flat_map (λ k. mails (told_of k).mail) kept

-- the greatest counts
abbrev pub most_events : List Kept → ℕ
most_events kept = fold (λ n (k : Kept). max k.events n) 0 kept

abbrev pub most_mails : List Kept → ℕ
most_mails kept = fold (λ n (k : Kept). max k.mails n) 0 kept

-- ---- all desks, by the numbers of their workers

-- with what is kept of each
abbrev pub numbered : List (Option Standing) → List Kept → List (ℕ × (Option Standing × Kept))
numbered desks kept = enumerate_from 0 (zip desks kept)

abbrev pub all_carried : Wish → Bool → List (Option Standing) → List Kept → List (Option Standing)
all_carried wish is_lost desks kept = map (λ n. carried wish n.0 (told_of n.1.1) is_lost n.1.0) (numbered desks kept)

abbrev pub all_carried_outs : Wish → Bool → List (Option Standing) → List Kept → List Out
all_carried_outs wish is_lost desks kept = flat_map (λ n. carried_outs wish n.0 (told_of n.1.1) is_lost n.1.0) (numbered desks kept)

abbrev pub all_told_since : Wish → ℕ → List Kept → List Told
all_told_since wish count kept =
    map (λ n. told_since (names_now wish n.0) (told_of n.1)) (enumerate_from 0 (take count kept))
