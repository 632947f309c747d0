-- When a journal writes a record into its current file, when it begins a next one, and what stands there of mailboxes that lines made.
use Rattle.std.specs.Prelude.{◌≡◌, ◌⊎◌, ◌+◌, ◌-◌, ◌^◌, ℕ, min, max, unwrap_or, Bool, true, false, not, ◌&&◌, ◌||◌, List, [], ◌∷◌, ◌++◌, nat_le, nat_lt, is_some, None, Result, OnOk, OnErr, IfOk}
use Rattle.std.specs.List.{fold}
use Rattle.std.specs.Int.NonZero.{non_zero_u32_get}
use Rattle.package.specs.Values.{MailChange}
use Rattle.notifier_model.specs.declared.event.Event.TheVariants as happened
use Rattle.notifier_model.specs.declared.saved.Saved.{Saved}
use Rattle.keeper.specs.declared.error.Unkept.{Unkept}
use Rattle.keeper.specs.Keeping.{State, Made as MadeBook, IsBookOf, after_handled, after_counted}
use Rattle.service.specs.declared.made.Made.{Made}
use Rattle.service.specs.declared.shelf.TheConstants.{PAUSE}
use Rattle.service.specs.declared.shelf.Limits.{Limits}
use Rattle.service.specs.declared.shelf.Sight.{Sight}
use Rattle.service.specs.declared.shelf.Loss.{Loss}
use Rattle.service.specs.declared.shelf.Shelf.{Shelf}
use Rattle.service.specs.Made.{worker_changes}

-- more stands behind its books than may, and than they have, and nothing that was unanswered at its begin can be so still
abbrev pub is_due : Limits → Sight → Bool
is_due limits sight = nat_lt (max limits.length sight.books) sight.rest && nat_le limits.age sight.age

-- one can be begun, and none is; the last try is long enough ago; and the current one misses a record, or isn't to stay and is due
abbrev pub wants_next : Limits → Sight → Bool
wants_next limits sight = (not sight.is_over && (not sight.is_beginning && nat_le PAUSE sight.pause)) && (sight.is_behind || (not sight.is_held && is_due limits sight))

-- For how many seconds the current file is it: since this run looked at it first, and in runs before
abbrev pub age : ℕ → Shelf → ℕ
age now s = min ((now - unwrap_or s.since now) + s.been) (2 ^ 64 - 1)

-- a record goes into the current file only where that misses none. Where it doesn't, the file misses one from then on, and stays as it is
pub record Writes (old new : Shelf) (written : Result Unit Loss) : Type 0 where
  pub whole : OnOk written (old.is_behind ≡ false)
  pub whole_still : OnOk written (new.is_behind ≡ false)
  pub behind : OnErr written (new.is_behind ≡ true)
  pub untouched : old.is_behind ≡ true → new.current ≡ old.current

-- ---- the next file

-- Nothing waits to be written any more, and no more is counted of workers. The current file is the same one. No next file is begun by that; one
-- that is being begun is given up where the system refuses a record
pub record IsWritten (old new : Shelf) : Type 0 where
  pub current : new.keeper.current ≡ []
  pub next : new.keeper.next ≡ []
  pub workers : new.keeper.workers ≡ old.keeper.workers
  pub made : new.made ≡ old.made
  pub file : new.current.number ≡ old.current.number
  pub begun : is_some new.next ≡ true → is_some old.next ≡ true

-- ---- what is told again of mailboxes that lines made

-- The keeper counts a line for this change as answered and handled by a worker: its record stands in the next file, too, behind the worker's book
abbrev pub told_again : ℕ → State → MailChange → State
told_again worker s change = after_counted worker (after_handled worker (happened.Mail change) s)

-- the same for each of these, in order
abbrev pub all_told_again : ℕ → List MailChange → State → State
all_told_again worker changes s = fold (told_again worker) s changes

-- the same for what this worker was told of the mailboxes that are its own, of each class the last
abbrev pub followed : ℕ → Made → State → State
followed worker made s = all_told_again worker (worker_changes (non_zero_u32_get made.workers) worker made.told) s

-- the event of the first of these is counted, and its line isn't
abbrev pub IsHalfTold : ℕ → List MailChange → State → State → Type 0
IsHalfTold worker [] old new = ⊥
IsHalfTold worker (change ∷ rest) old new = new ≡ after_handled worker (happened.Mail change) old

-- a fault ends that: some are told again, in order, and of the next one the event at most
abbrev pub IsCutShort : ℕ → List MailChange → State → State → Type 0
IsCutShort worker changes old new =
    (told : List MailChange) × (rest : List MailChange) × (changes ≡ told ++ rest)
    × ((new ≡ all_told_again worker told old) ⊎ IsHalfTold worker rest (all_told_again worker told old) new)

-- it is the book of a worker, unless none could be made
abbrev pub HoldsBook : Result MadeBook Unkept → Type 0
HoldsBook made = IfOk made (λ m. (saved : Saved) × IsBookOf m.worker m.told saved m)

-- What this worker was told of mailboxes that lines made stands behind its book. Or the next file was given up, and the current one stays
abbrev pub IsFollowed : ℕ → Shelf → Shelf → Type 0
IsFollowed worker old new =
    (new.keeper.workers ≡ (followed worker old.made old.keeper).workers)
    ⊎ ((new.next ≡ None) × (new.current.number ≡ old.current.number))
