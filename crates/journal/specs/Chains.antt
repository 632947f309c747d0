-- Two files that follow each other, as one: the older's books, all events since, and what the newer says of lines and clocks.
use Rattle.std.specs.Prelude.{◌≡◌, ℕ, ◌-◌, ◌≤◌, List, [], ◌∷◌, ◌++◌, length, take, slice_get, Option, Some, None, Result, Ok, Err}
use Rattle.journal.specs.declared.record.Clock.{Clock}
use Rattle.journal.specs.declared.file.Account.{Account}
use Rattle.journal.specs.declared.file.Generation.{Generation}
use Rattle.journal.specs.declared.chain.ChainError.{ChainError}
use Rattle.journal.specs.declared.chain.ChainError.TheVariants.{NoMemory, OtherSeed, OtherWorkers, Gap}

-- how many events stand between two books of a worker
abbrev pub between : Account → Account → ℕ
between older newer = newer.book.told.events - older.book.told.events

-- the newer book counts at least as many events as the older one, and all events between them stand in the older file
pub record Follows (older newer : Account) : Type 0 where
  pub behind : older.book.told.events ≤ newer.book.told.events
  pub whole : between older newer ≤ length older.events

-- what the worker goes on from
abbrev pub joined : Account → Account → Account
joined older newer = record {
  book = older.book;
  events = take (between older newer) older.events ++ newer.events;
  lines = newer.lines;
}

abbrev pub later_clock : Option Clock → Option Clock → Option Clock
later_clock older None = older
later_clock older (Some clock) = Some clock

-- each worker's books do
abbrev pub AllFollow : List Account → List Account → Type 0
AllFollow [] ns = Unit {0}
AllFollow (o ∷ os) [] = Unit {0}
AllFollow (o ∷ os) (n ∷ ns) = Follows o n × AllFollow os ns

-- what each worker goes on from
abbrev pub all_joined : List Account → List Account → List Account
all_joined [] ns = []
all_joined (o ∷ os) [] = []
all_joined (o ∷ os) (n ∷ ns) = joined o n ∷ all_joined os ns

-- what both files say of each worker
pub record AreJoined (older newer all : List Account) : Type 0 where
  pub workers : length older ≡ length newer
  pub follow : AllFollow older newer
  pub are : all ≡ all_joined older newer

pub record IsChain (older newer g : Generation) : Type 0 where
  pub seed : older.header.seed ≡ newer.header.seed
  pub header : g.header ≡ newer.header
  pub clock : g.clock ≡ later_clock older.clock newer.clock
  pub accounts : AreJoined older.accounts newer.accounts g.accounts

-- the books of a worker don't follow each other
pub record HasGap (older newer : List Account) (w : ℕ) : Type 0 where
  pub before : Account
  pub behind : Account
  pub first : slice_get older w ≡ Some before
  pub second : slice_get newer w ≡ Some behind
  pub gap : Follows before behind → ⊥

abbrev pub HasNoChain : List Account → List Account → ChainError → Type 0
HasNoChain older newer NoMemory = Unit {0}
HasNoChain older newer OtherSeed = ⊥
HasNoChain older newer OtherWorkers = length older ≡ length newer → ⊥
HasNoChain older newer (Gap w) = HasGap older newer w

abbrev pub Refuses : Generation → Generation → ChainError → Type 0
Refuses older newer NoMemory = Unit {0}
Refuses older newer OtherSeed = older.header.seed ≡ newer.header.seed → ⊥
Refuses older newer OtherWorkers = length older.accounts ≡ length newer.accounts → ⊥
Refuses older newer (Gap w) = HasGap older.accounts newer.accounts w

abbrev pub Chains : Generation → Generation → Result Generation ChainError → Type 0
Chains older newer (Ok g) = IsChain older newer g
Chains older newer (Err e) = Refuses older newer e
