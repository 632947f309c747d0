-- A reload: a service that runs reads its files again, and goes on with the mailboxes that they name now.
--
-- It is a start from the journal of what ran till then: that is whole, so nothing of what was handled is lost, and no number leaps. What it
-- says of a worker is an account: the book, and what was handled since.
use Rattle.std.specs.Prelude.{◌≡◌, ℕ, true, false, List, [], ◌++◌, map, filter, Option, Some}
use Rattle.std.specs.List.{AllByRecursion}
use Rattle.notifier_model.specs.declared.event.Out.{Out}
use Rattle.notifier_model.specs.declared.row.Row.{Row}
use Rattle.notifier_model.specs.declared.saved.Saved.{Saved}
use Rattle.notifier.specs.Standing.{Standing}
use Rattle.notifier.specs.Written.{saved_of}
use Rattle.restarts.specs.Withdrawn.{is_held}
use Rattle.journal.specs.declared.file.Account.{Account}
use Rattle.journal.specs.declared.record.Told.{Told}
use Rattle.resumption.specs.declared.desks.Worked.{Worked}
use Rattle.resumption.specs.declared.changed.Wish.{Wish}
use Rattle.resumption.specs.Accounts.{all_stand, all_unanswered, all_kept}
use Rattle.resumption.specs.Changed.{all_carried, all_carried_outs, boxes_now, carried_book, carried_outs}

-- where the workers' desks stand as it ends what ran till then
abbrev pub stood : Worked → List Account → List (Option Standing)
stood worked accounts = map (λ (s : Standing). Some s) (all_stand worked accounts)

-- and where they go on, which `replay` and then `renew` make of the accounts
abbrev pub reloaded : Wish → Worked → List Account → List (Option Standing)
reloaded wish worked accounts = all_carried wish false (stood worked accounts) (all_kept accounts).workers

-- what is sent first: what nobody had answered, in the same bytes, and the last NOTIFYs of those who watch a mailbox that is gone
abbrev pub sent_first : Wish → Worked → List Account → List Out
sent_first wish worked accounts = all_unanswered worked accounts ++ all_carried_outs wish false (stood worked accounts) (all_kept accounts).workers

-- Those rows go on whose resource is there, as a mailbox that the files named and still name, each as it stood, and no others
abbrev pub StayLaw : Type 0
StayLaw = (wish : Wish) (worker : ℕ) (told : Told) (book : Saved) →
    (carried_book wish worker told false book).rows ≡ filter (is_held (boxes_now wish worker told book)) book.rows

-- Where that is so of each row of a worker nobody notices: all stand as they stood, and nothing is sent that was not sent before
abbrev pub NobodyNoticesLaw : Type 0
NobodyNoticesLaw = (wish : Wish) (worker : ℕ) (told : Told) (s : Standing) →
    AllByRecursion (λ (row : Row). is_held (boxes_now wish worker told (saved_of s.book)) row ≡ true) (saved_of s.book).rows →
    ((carried_book wish worker told false (saved_of s.book)).rows ≡ (saved_of s.book).rows) × (carried_outs wish worker told false (Some s) ≡ [])
