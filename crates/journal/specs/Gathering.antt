-- What the records of a file say, as it is gathered step by step.
use Rattle.std.specs.Prelude.{◌≡◌, ℕ, ◌<◌, ◌≤◌, List, [], ◌∷◌, ◌++◌, length, map, All, Contains, slice_get, Option, Some, None, option_map}
use Rattle.journal.specs.declared.header.Header.{Header}
use Rattle.journal.specs.declared.record.Clock.{Clock}
use Rattle.journal.specs.declared.record.Record.{Record}
use Rattle.journal.specs.declared.file.Account.{Account}
use Rattle.journal.specs.declared.file.Generation.{Generation}
use Rattle.journal.specs.declared.file.GenerationError.{GenerationError}
use Rattle.journal.specs.declared.file.GenerationError.TheVariants.{NoMemory, NoHeader, OtherVersion, NoSuchWorker, NoBook}
use Rattle.journal.specs.Generations.{Known, unknown, after, known, account, worker_of, IsWithin}

-- of each of so many workers this is known
pub record AreKnown (workers : ℕ) (of : ℕ → Known) (all : List Known) : Type 0 where
  pub count : length all ≡ workers
  pub each : (w : ℕ) → w < workers → slice_get all w ≡ Some (of w)

abbrev pub AreUnknown : ℕ → List Known → Type 0
AreUnknown workers all = AreKnown workers (λ w. unknown) all

-- what these records say of each
pub record AreGathered (workers : ℕ) (records : List Record) (all : List Known) : Type 0 where
  pub known : AreKnown workers (known records) all
  pub within : All (IsWithin workers) records

-- one record more
pub record IsTaken (r : Record) (old new : List Known) : Type 0 where
  pub count : length new ≡ length old
  pub within : IsWithin (length old) r
  pub each : (w : ℕ) → slice_get new w ≡ option_map (λ k. after w k r) (slice_get old w)

-- it is of a worker beyond these
abbrev pub IsBeyond : Record → ℕ → GenerationError → Type 0
IsBeyond r workers NoMemory = Unit {0}
IsBeyond r workers NoHeader = ⊥
IsBeyond r workers OtherVersion = ⊥
IsBeyond r workers (NoSuchWorker w) = (worker_of r ≡ Some w) × (workers ≤ w)
IsBeyond r workers (NoBook w) = ⊥

-- one of them is
abbrev pub GatherFails : ℕ → List Record → GenerationError → Type 0
GatherFails workers records NoMemory = Unit {0}
GatherFails workers records NoHeader = ⊥
GatherFails workers records OtherVersion = ⊥
GatherFails workers records (NoSuchWorker w) = (r : Record) × Contains records r × (worker_of r ≡ Some w) × (workers ≤ w)
GatherFails workers records (NoBook w) = ⊥

-- from what each goes on
abbrev pub AreAccounts : List Known → List Account → Type 0
AreAccounts all accounts = map (λ a. Some a) accounts ≡ map account all

-- and the whole
pub record IsWith (header : Header) (clock : Option Clock) (all : List Known) (g : Generation) : Type 0 where
  pub has_header : g.header ≡ header
  pub has_clock : g.clock ≡ clock
  pub has_accounts : AreAccounts all g.accounts

-- one of them has no book
abbrev pub MissesBook : List Known → GenerationError → Type 0
MissesBook all NoMemory = Unit {0}
MissesBook all NoHeader = ⊥
MissesBook all OtherVersion = ⊥
MissesBook all (NoSuchWorker w) = ⊥
MissesBook all (NoBook w) = (k : Known) × (slice_get all w ≡ Some k) × (k.book ≡ None)
