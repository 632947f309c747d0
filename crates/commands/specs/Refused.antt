-- Why no service runs, and the exit status of the program then.
--
--   status   cause
--   0        none: it came to its end, and all went well
--   1        the words ask for no service
--   3        an address, a file, a thread or a socket can't be had, or one failed
--   4        memory was wanting
use Rattle.std.specs.Prelude.{◌≡◌, ◌⊎◌, ℕ, ℤ, pos, Bool, true, ◌||◌, List, [], ◌∷◌, Option, Some, Result, Ok, Err, codes, bytes_eq}
use Rattle.arguments.specs.declared.flag.AddressFlag.{AddressFlag}
use Rattle.arguments.specs.declared.flag.AddressFlag.TheVariants as address
use Rattle.plans.specs.Plans.{IsJournal}
use Rattle.plans.specs.Refused as plan
use Rattle.service.specs.declared.error.RunError.{RunError}
use Rattle.service.specs.declared.error.RunError.TheVariants as run
use Rattle.resumption.specs.declared.desks.Halt.{Halt}
use Rattle.resumption.specs.declared.desks.Halt.TheVariants as halt
use Rattle.commands.specs.declared.error.ServeError.{ServeError}
use Rattle.commands.specs.declared.error.ServeError.TheVariants as error
use Rattle.commands.specs.Serving.{CanEndWell}

abbrev pub status_of : ServeError → ℕ
status_of (error.Plan e) = plan.status_of e
status_of (error.JournalInUse path) = 3
status_of (error.Address which) = 3
status_of (error.NotHere which) = 3
status_of (error.Denied which) = 3
status_of error.Descriptors = 3
status_of error.System = 3
status_of error.Device = 3
status_of error.NoMemory = 4

-- the crew of a service doesn't run for this cause
abbrev pub of_run : RunError → ServeError
of_run run.NoThread = error.System
of_run run.NoMemory = error.NoMemory
of_run (run.BadDesk worker) = error.System

-- the desks of a journal don't go on for this cause
abbrev pub of_halt : Halt → ServeError
of_halt halt.NoMemory = error.NoMemory
of_halt halt.Unfit = error.System

-- a service listens here: phones, the operator and voicemail systems reach it by these alone
abbrev pub IsListened : AddressFlag → Type 0
IsListened address.Listen = Unit {0}
IsListened address.Contact = ⊥
IsListened address.Control = Unit {0}
IsListened address.Feed = Unit {0}

-- a cause that isn't in the words
abbrev pub IsOther : ServeError → Type 0
IsOther (error.Plan e) = ⊥
IsOther (error.JournalInUse path) = ⊥
IsOther (error.Address which) = IsListened which
IsOther (error.NotHere which) = IsListened which
IsOther (error.Denied which) = IsListened which
IsOther error.Descriptors = Unit {0}
IsOther error.System = Unit {0}
IsOther error.Device = Unit {0}
IsOther error.NoMemory = Unit {0}

-- ---- sockets

-- too many files are open: by the program (EMFILE, 24), or by all (ENFILE, 23)
abbrev pub IsTooMany : Option ℤ → Type 0
IsTooMany number = (number ≡ Some (pos 23)) ⊎ (number ≡ Some (pos 24))

-- no socket is to be had where this option says, for this cause
abbrev pub IsNoSocket : AddressFlag → ServeError → Type 0
IsNoSocket which (error.Plan e) = ⊥
IsNoSocket which (error.JournalInUse path) = ⊥
IsNoSocket which (error.Address named) = named ≡ which
IsNoSocket which (error.NotHere named) = named ≡ which
IsNoSocket which (error.Denied named) = named ≡ which
IsNoSocket which error.Descriptors = Unit {0}
IsNoSocket which error.System = Unit {0}
IsNoSocket which error.Device = ⊥
IsNoSocket which error.NoMemory = ⊥

-- ---- the journal

-- the folder of this journal can't be had for this cause
abbrev pub IsOfJournal : Option (List ℕ) → ServeError → Type 0
IsOfJournal journal e = (e ≡ error.NoMemory) ⊎ ((path : List ℕ) × (journal ≡ Some path) × (e ≡ error.JournalInUse path))

-- ---- all of it

-- the words ask for no service for this cause. What stands in a file, and of the system and memory, no contract can tell
abbrev pub IsRefusal : List (List ℕ) → ServeError → Type 0
IsRefusal words (error.Plan e) = plan.IsRefusal words e
IsRefusal words (error.JournalInUse path) = IsJournal words (Some path)
IsRefusal words (error.Address which) = IsListened which
IsRefusal words (error.NotHere which) = IsListened which
IsRefusal words (error.Denied which) = IsListened which
IsRefusal words error.Descriptors = Unit {0}
IsRefusal words error.System = Unit {0}
IsRefusal words error.Device = Unit {0}
IsRefusal words error.NoMemory = Unit {0}

-- ---- the exit status of `notifyd serve`

-- a word that asks for a text
abbrev pub asks_for_text : List ℕ → Bool
asks_for_text word = bytes_eq word (codes "--help") || (bytes_eq word (codes "-h") || bytes_eq word (codes "--version"))

-- the words ask for a text alone
abbrev pub AskForText : List (List ℕ) → Type 0
AskForText words = (word : List ℕ) × (words ≡ word ∷ []) × (asks_for_text word ≡ true)

-- the status of what came: 0, or that of its own cause
abbrev pub status_after : {T : Type 0} → Result T ServeError → ℕ
status_after (Ok came) = 0
status_after (Err e) = status_of e

-- 0 only where the words ask for a text, or for a service of which some run ends well; any other is that of a cause
abbrev pub IsStatus : List (List ℕ) → ℕ → Type 0
IsStatus words status =
    ((status ≡ 0) × (AskForText words ⊎ CanEndWell words)) ⊎ ((e : ServeError) × IsRefusal words e × (status ≡ status_of e))
