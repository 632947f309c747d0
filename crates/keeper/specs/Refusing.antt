-- Why something isn't kept.
use Rattle.std.specs.Prelude.{◌≡◌, ◌⊎◌, ℕ, ◌+◌, ◌<◌, ◌≤◌, ◌^◌, max, Bool, false, length, List, slice_get, is_some, Option, Some, None}
use Rattle.notifier_model.specs.declared.event.Event.{Event}
use Rattle.snapshots.specs.Events.{is_sound}
use Rattle.journal.specs.declared.frames.TheConstants.{LONGEST}
use Rattle.journal.specs.declared.record.Record.{Record}
use Rattle.journal.specs.declared.record.Record.TheVariants.{Handled}
use Rattle.journal.specs.declared.writing.Unwritten.{Unwritten}
use Rattle.journal.specs.declared.writing.Unwritten.TheVariants.{TooLong, Unsound, NoMemory as NoRoom}
use Rattle.journal.specs.Records.{record_text, record_is_sound}
use Rattle.keeper.specs.declared.error.Unkept.{Unkept}
use Rattle.keeper.specs.declared.error.Unkept.TheVariants.{Unwritten as NotWritten, NoMemory, NoSuchWorker, NotBegun, Outdated, Spent}
use Rattle.keeper.specs.Told.{Kept}
use Rattle.keeper.specs.Keeping.{State, Made, IsOutdated}

-- one of its counts is the last that 64 bits hold
abbrev pub IsSpent : Kept → Type 0
IsSpent k = 2 ^ 64 ≤ max k.events (max k.mails k.lines) + 1

abbrev pub HasSpent : List Kept → ℕ → Type 0
HasSpent workers w = (k : Kept) × (slice_get workers w ≡ Some k) × IsSpent k

-- a worker doesn't count more
abbrev pub CountFails : Kept → Unkept → Type 0
CountFails k (NotWritten why) = ⊥
CountFails k NoMemory = Unit {0}
CountFails k NoSuchWorker = ⊥
CountFails k NotBegun = ⊥
CountFails k Outdated = ⊥
CountFails k Spent = IsSpent k

-- nothing is counted for the worker with this number
abbrev pub WorkerFails : List Kept → ℕ → Unkept → Type 0
WorkerFails workers w (NotWritten why) = ⊥
WorkerFails workers w NoMemory = Unit {0}
WorkerFails workers w NoSuchWorker = length workers ≤ w
WorkerFails workers w NotBegun = ⊥
WorkerFails workers w Outdated = ⊥
WorkerFails workers w Spent = HasSpent workers w

-- a record isn't written
abbrev pub WriteFails : Record → Unwritten → Type 0
WriteFails r TooLong = LONGEST < length (record_text r)
WriteFails r Unsound = record_is_sound r ≡ false
WriteFails r NoRoom = Unit {0}

-- nor kept
abbrev pub PutFails : Record → Unkept → Type 0
PutFails r (NotWritten why) = WriteFails r why
PutFails r NoMemory = Unit {0}
PutFails r NoSuchWorker = ⊥
PutFails r NotBegun = ⊥
PutFails r Outdated = ⊥
PutFails r Spent = ⊥

-- a record isn't kept for the worker with this number
abbrev pub KeepFails : Record → List Kept → ℕ → Unkept → Type 0
KeepFails r workers w (NotWritten why) = WriteFails r why
KeepFails r workers w NoMemory = Unit {0}
KeepFails r workers w NoSuchWorker = length workers ≤ w
KeepFails r workers w NotBegun = ⊥
KeepFails r workers w Outdated = ⊥
KeepFails r workers w Spent = HasSpent workers w

-- what is known of the worker with this number isn't told
abbrev pub LookFails : List Kept → ℕ → Unkept → Type 0
LookFails workers w (NotWritten why) = ⊥
LookFails workers w NoMemory = Unit {0}
LookFails workers w NoSuchWorker = length workers ≤ w
LookFails workers w NotBegun = ⊥
LookFails workers w Outdated = ⊥
LookFails workers w Spent = ⊥

-- ---- a book

-- it isn't made, since its record isn't written
abbrev pub IsUnwritten : Unkept → Type 0
IsUnwritten (NotWritten why) = Unit {0}
IsUnwritten NoMemory = ⊥
IsUnwritten NoSuchWorker = ⊥
IsUnwritten NotBegun = ⊥
IsUnwritten Outdated = ⊥
IsUnwritten Spent = ⊥

-- the next file is begun, and has no place for the worker with this number
abbrev pub IsBeyond : ℕ → Option (List Bool) → Type 0
IsBeyond w None = ⊥
IsBeyond w (Some booked) = length booked ≤ w

-- there is no worker with this number, or none for which the next file has a place
abbrev pub HasNoPlace : State → ℕ → Type 0
HasNoPlace s w = (length s.workers ≤ w) ⊎ IsBeyond w s.booked

-- one that was made isn't put
abbrev pub BookFails : Made → State → Unkept → Type 0
BookFails made s (NotWritten why) = ⊥
BookFails made s NoMemory = Unit {0}
BookFails made s NoSuchWorker = HasNoPlace s made.worker
BookFails made s NotBegun = is_some s.booked ≡ false
BookFails made s Outdated = IsOutdated made s.workers
BookFails made s Spent = ⊥

-- one with this record isn't made and put at once
abbrev pub BookingFails : Record → State → ℕ → Unkept → Type 0
BookingFails r s w (NotWritten why) = WriteFails r why
BookingFails r s w NoMemory = Unit {0}
BookingFails r s w NoSuchWorker = HasNoPlace s w
BookingFails r s w NotBegun = is_some s.booked ≡ false
BookingFails r s w Outdated = ⊥
BookingFails r s w Spent = ⊥
