-- What the records of a file say: of each worker its last book, what it handled since, and which control lines still wait for it. A
-- record of a book is named `Had` here, one of a line `Answered`, one of a clock `Shown`, and the header `First`.
use Rattle.std.specs.Prelude.{◌≡◌, ℕ, ◌+◌, ◌<◌, ◌≤◌, Bool, true, false, nat_lt, List, [], ◌∷◌, ◌++◌, length, fold, All, Contains, count_by, slice_get, ◌==◌, if◌then◌else◌, Option, Some, None, option_map, IfSome, Result, Ok, Err}
use Rattle.package.specs.Values.{MailChange}
use Rattle.notifier_model.specs.declared.event.Event.{Event}
use Rattle.notifier_model.specs.declared.event.Event.TheVariants.{Request as Comes, Reply, Mail, Progress, Tick, Shut}
use Rattle.journal.specs.declared.header.Header.{Header}
use Rattle.journal.specs.declared.record.Book.{Book}
use Rattle.journal.specs.declared.record.Line.{Line}
use Rattle.journal.specs.declared.record.Clock.{Clock}
use Rattle.journal.specs.declared.record.Record.{Record}
use Rattle.journal.specs.declared.record.Record.TheVariants.{Header as First, Book as Had, Handled, Line as Answered, Clock as Shown}
use Rattle.journal.specs.declared.file.Account.{Account}
use Rattle.journal.specs.declared.file.Generation.{Generation}
use Rattle.journal.specs.declared.file.GenerationError.{GenerationError}
use Rattle.journal.specs.declared.file.GenerationError.TheVariants.{NoMemory, NoHeader, OtherVersion, NoSuchWorker, NoBook}

-- ---- a worker

-- the worker that a record is of
abbrev pub worker_of : Record → Option ℕ
worker_of (First header) = None
worker_of (Had book) = Some book.worker
worker_of (Handled worker event) = Some worker
worker_of (Answered line) = Some line.worker
worker_of (Shown clock) = None

abbrev pub is_worker : ℕ → Option ℕ → Bool
is_worker w None = false
is_worker w (Some v) = v == w

abbrev pub is_of : ℕ → Record → Bool
is_of w r = is_worker w (worker_of r)

-- what is known of a worker: its last book, what it handled since, and all control lines for it
pub record Known : Type 0 where
  pub book : Option Book
  pub events : List Event
  pub lines : List Line

abbrev pub unknown : Known
unknown = record { book = None; events = []; lines = [] }

-- what is known with one record of it more
abbrev pub taken : Known → Record → Known
taken k (First header) = k
taken k (Had book) = record { book = Some book; events = []; lines = k.lines }
taken k (Handled worker event) = record { book = k.book; events = k.events ++ event ∷ []; lines = k.lines }
taken k (Answered line) = record { book = k.book; events = k.events; lines = k.lines ++ line ∷ [] }
taken k (Shown clock) = k

abbrev pub after : ℕ → Known → Record → Known
after w k r = if is_of w r then taken k r else k

-- what these records say of the worker w
abbrev pub known : List Record → ℕ → Known
known records w = fold (after w) unknown records

-- ---- what it goes on from

abbrev pub is_mail : Event → Bool
is_mail (Comes from request) = false
is_mail (Reply response) = false
is_mail (Mail change) = true
is_mail (Progress step) = false
is_mail (Tick second) = false
is_mail Shut = false

-- the changes of the lines with a number above `handled`, in their order: the worker hasn't handled these yet
abbrev pub waiting : ℕ → List Line → List MailChange
waiting handled [] = []
waiting handled (l ∷ ls) = if nat_lt handled l.number then l.change ∷ waiting handled ls else waiting handled ls

-- how many lines a worker had handled: as many as its book counts, and the changes of mailboxes since
abbrev pub handled : Book → List Event → ℕ
handled book events = book.told.mails + count_by is_mail events

abbrev pub account_from : Known → Book → Account
account_from k book = record { book = book; events = k.events; lines = waiting (handled book k.events) k.lines }

-- what a worker goes on from, where there is a book of it
abbrev pub account : Known → Option Account
account k = option_map (account_from k) k.book

-- ---- a file

abbrev pub header_in : Record → Option Header
header_in (First header) = Some header
header_in (Had book) = None
header_in (Handled worker event) = None
header_in (Answered line) = None
header_in (Shown clock) = None

abbrev pub first_header : List Record → Option Header
first_header [] = None
first_header (r ∷ rs) = header_in r

-- what the clocks showed last
abbrev pub clock_after : Option Clock → Record → Option Clock
clock_after last (First header) = last
clock_after last (Had book) = last
clock_after last (Handled worker event) = last
clock_after last (Answered line) = last
clock_after last (Shown clock) = Some clock

abbrev pub last_clock : List Record → Option Clock
last_clock records = fold clock_after None records

abbrev pub IsWithin : ℕ → Record → Type 0
IsWithin workers r = IfSome (worker_of r) (λ w. w < workers)

-- what the records say, with this version
pub record Says (version : List ℕ) (records : List Record) (g : Generation) : Type 0 where
  pub header : first_header records ≡ Some g.header
  pub same_version : g.header.version ≡ version
  pub within : All (IsWithin g.header.workers) records
  pub clock : g.clock ≡ last_clock records
  pub count : length g.accounts ≡ g.header.workers
  pub each : (w : ℕ) → w < g.header.workers → slice_get g.accounts w ≡ account (known records w)

-- ---- and why they say nothing

pub record HasOtherVersion (version : List ℕ) (records : List Record) : Type 0 where
  pub header : Header
  pub first : first_header records ≡ Some header
  pub other : header.version ≡ version → ⊥

-- a record names a worker that there is not
pub record NamesWorker (records : List Record) (w : ℕ) : Type 0 where
  pub header : Header
  pub first : first_header records ≡ Some header
  pub place : Record
  pub stands : Contains records place
  pub named : worker_of place ≡ Some w
  pub beyond : header.workers ≤ w

-- no book of a worker stands there
pub record LacksBook (records : List Record) (w : ℕ) : Type 0 where
  pub header : Header
  pub first : first_header records ≡ Some header
  pub within : w < header.workers
  pub lacks : (known records w).book ≡ None

abbrev pub Refuses : List ℕ → List Record → GenerationError → Type 0
Refuses version records NoMemory = Unit {0}
Refuses version records NoHeader = first_header records ≡ None
Refuses version records OtherVersion = HasOtherVersion version records
Refuses version records (NoSuchWorker w) = NamesWorker records w
Refuses version records (NoBook w) = LacksBook records w

-- but for want of memory a list of records is refused only for what it says
abbrev pub IsSaid : List ℕ → List Record → Result Generation GenerationError → Type 0
IsSaid version records (Ok g) = Says version records g
IsSaid version records (Err e) = Refuses version records e
