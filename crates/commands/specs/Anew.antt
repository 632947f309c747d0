-- New desks where there is a journal, as they are wished, and what their workers were told.
use Rattle.std.specs.Prelude.{◌≡◌, ◌<◌, ℕ, ◌+◌, min, List, map, get_or, Option, Some, None}
use Rattle.std.specs.List.{range_with_len}
use Rattle.package.specs.declared.change.Change.{Change}
use Rattle.notifier_model.specs.Start.{Start, place_of}
use Rattle.notifier.specs.Standing.{Standing, first_standing}
use Rattle.arguments.specs.Setup.{dealt_names}
use Rattle.arguments.specs.Told.{boxes_told}
use Rattle.journal.specs.declared.record.Told.{Told}
use Rattle.keeper.specs.Told.{Kept}
use Rattle.resumption.specs.declared.changed.Wish.{Wish}
use Rattle.resumption.specs.Told.{told_with}
use Rattle.resumption.specs.Changed.{all_mails, most_events, most_mails}

-- a worker, with the mailboxes that are dealt to it, each with the counts that these changes say, and no transfer
abbrev pub start_wished : Wish → List Change → ℕ → Start
start_wished wish changes worker = record {
  place = place_of wish.work.now.setup worker;
  boxes = boxes_told wish.work.now.no_refer changes (dealt_names wish.workers worker wish.mailboxes.now);
}

-- the desk of each worker stands so
abbrev pub AreNew : Wish → List Change → List (Option Standing) → Type 0
AreNew wish changes desks = (w : ℕ) → w < wish.workers → get_or desks w None ≡ Some (first_standing (start_wished wish changes w))

-- what the workers were told of the mailboxes that are dealt to them
abbrev pub told_anew : Wish → List Change → List Told
told_anew wish changes = map (λ w. told_with (dealt_names wish.workers w wish.mailboxes.now) changes) (range_with_len 0 wish.workers)

-- The counts go on, with one event more, so that nobody takes the older file for the one before
abbrev pub counted_on : ℕ → ℕ → Told → Told
counted_on events mails told = record told { events = min (events + 1) 18446744073709551615; mails = mails }

-- what workers were told that begin behind these: of mailboxes the same
abbrev pub told_behind : Wish → List Kept → List Told
told_behind wish kept = map (counted_on (most_events kept) (most_mails kept)) (told_anew wish (all_mails kept))
