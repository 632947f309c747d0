-- What a question is told: lines behind an `ok`.
use Rattle.std.specs.Prelude.{◌≡◌, ◌%◌, ℕ, List, ◌++◌, codes, slice_get, Option, Some, None}
use Rattle.notifier_model.specs.Home.{key_hash}
use Rattle.scripts.specs.Script.{lf}
use Rattle.control_lines.specs.Told.{Row}
use Rattle.watchers.specs.declared.inquiry.Inquiry.{Inquiry}
use Rattle.service.specs.Watched.{IsPage}
use Rattle.control_lines.specs.Pages.{show_text, dump_text}

abbrev pub report : List ℕ → List ℕ
report lines = codes "ok" ++ (lf ++ lines)

-- it begins as an `ok` with lines behind it
abbrev pub IsReport : List ℕ → Type 0
IsReport octets = (lines : List ℕ) × (octets ≡ report lines)

-- why a RELOAD is refused, behind a `no`: a number, which is the exit status of a start with these files, and words
abbrev pub refusal : List ℕ → List ℕ
refusal why = codes "no" ++ (lf ++ why)

abbrev pub IsRefusal : List ℕ → Type 0
IsRefusal octets = (why : List ℕ) × (octets ≡ refusal why)

-- the worker that has this mailbox, among so many
abbrev pub worker_for : ℕ → List ℕ → ℕ
worker_for workers mailbox = key_hash mailbox % workers

-- what the mailbox at this place was last told
abbrev pub IsShown : List Row → ℕ → ℕ → List ℕ → Type 0
IsShown told workers place octets =
    (row : Row) × (slice_get told place ≡ Some row) × (octets ≡ report (show_text (worker_for workers row.0) row.0 row.1))

-- what the mailboxes from this place on were last told, as far as a page goes
abbrev pub dumped : List Row → ℕ → List ℕ
dumped told from = report (dump_text told from)

-- it asks for those that watch the mailbox at this place, or any, from this place in the list of rows on
abbrev pub IsInquiry : List Row → Option ℕ → ℕ → Inquiry → Type 0
IsInquiry told None from q = (q.mailbox ≡ None) × (q.place ≡ from)
IsInquiry told (Some place) from q = (row : Row) × (slice_get told place ≡ Some row) × (q.mailbox ≡ Some row.0) × (q.place ≡ from)

-- a page of some rows that are asked for
abbrev pub IsWatched : Inquiry → List ℕ → Type 0
IsWatched q octets = (page : List ℕ) × IsPage q page × (octets ≡ report page)
