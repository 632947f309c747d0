-- The rows as lines, page by page.
--
--   page = *row ["more" SP place LF]         ; where more rows are to be looked at: those before this place
--   row  = mailbox SP watcher SP address SP tag SP sent SP answered SP age SP left SP "code=" code SP "contact=" contact [SP "user=" user] LF
--
-- `watcher` and `contact` are what is shown of the URIs that a stranger wrote, `user` of the name whose password was shown. `sent` and `answered` are numbers of NOTIFYs; `age` and `left` are seconds:
-- since its first NOTIFY, and until it ends. `code` is the status code of the answer to the last NOTIFY that was answered (RFC 3261
-- section 7.2), 0 where none was.
-- The rows of a page go from the last of those that it may tell to the first.
use Rattle.std.specs.Prelude.{◌≤◌, ℕ, zero, suc, ◌+◌, ◌-◌, ◌/◌, min, Bool, true, false, ◌&&◌, ◌==◌, nat_lt, nat_le, List, [], ◌++◌, length, slice_get, Option, Some, None, codes, decimal, bytes_eq, string_bytes, if◌then◌else◌}
use Rattle.shown_text.specs.Shown.{word, words}
use Rattle.sip_text.specs.Addresses.{addr_text}
use Rattle.watchers.specs.declared.row.Watcher.{Watcher}
use Rattle.watchers.specs.declared.page.RowPage.{RowPage}
use Rattle.watchers.specs.declared.page.TheConstants.{LINES, LOOKS, FULL, ROW}
use Rattle.watchers.specs.Rows.{Row}

abbrev pub seconds : ℕ → ℕ → ℕ
seconds from to = (to - from) / 1000

-- who showed a password, if somebody did
abbrev pub user_word : Option (List ℕ) → List ℕ
user_word None = []
user_word (Some user) = codes " user=" ++ word user

-- the line of a row that began so many seconds ago, and lasts for so many more
abbrev pub line : List ℕ → Watcher → ℕ → ℕ → List ℕ
line tag w age left =
    w.mailbox ++ (codes " " ++ (words w.watcher ++ (codes " " ++ (addr_text w.to ++ (codes " " ++ (tag ++ (codes " " ++ (decimal w.sent
    ++ (codes " " ++ (decimal w.answered ++ (codes " " ++ (decimal age ++ (codes " " ++ (decimal left
    ++ (codes " code=" ++ (decimal w.code ++ (codes " contact=" ++ (word w.contact ++ (user_word w.user ++ codes "\n")))))))))))))))))))

-- its line at this moment
abbrev pub row_text : ℕ → List ℕ → Watcher → List ℕ
row_text moment tag w = line tag w (seconds w.since moment) (seconds moment w.until)

-- both are the same mailbox, or none
abbrev pub is_same : Option (List ℕ) → Option (List ℕ) → Bool
is_same None None = true
is_same None (Some other) = false
is_same (Some one) None = false
is_same (Some one) (Some other) = bytes_eq one other

-- ---- a page, as far as it is written

-- at which moment it tells, before which place rows are still to be looked at, and what it tells so far
pub record Page : Type 0 where
  pub moment : ℕ
  pub left : ℕ
  pub lines : ℕ
  pub text : List ℕ

abbrev pub page_in : RowPage → Page
page_in p = record { moment = p.moment; left = p.left; lines = p.lines; text = string_bytes p.text }

-- it has room for one more row, and there is one to look at
abbrev pub goes_on : Page → Bool
goes_on p = nat_lt 0 p.left && (nat_lt p.lines LINES && nat_lt (length p.text) FULL)

-- the row is one of those that are asked for
abbrev pub is_wanted : Option (List ℕ) → Watcher → Bool
is_wanted None w = true
is_wanted (Some mailbox) w = bytes_eq w.mailbox mailbox

-- a line more, unless it is too long
abbrev pub with_line : List ℕ → Page → Page
with_line line p = if nat_le (length line) ROW then record p { lines = p.lines + 1; text = p.text ++ line } else p

abbrev pub with_row : Option (List ℕ) → Option Row → Page → Page
with_row mailbox None p = p
with_row mailbox (Some row) p = if is_wanted mailbox row.1 then with_line (row_text p.moment row.0 row.1) p else p

-- one row more was looked at: the last of those that are left
abbrev pub after_look : List Row → Option (List ℕ) → Page → Page
after_look rows mailbox p = if goes_on p then with_row mailbox (slice_get rows (p.left - 1)) (record p { left = p.left - 1 }) else p

-- so many were looked at
unfoldable pub after_looks : List Row → Option (List ℕ) → ℕ → Page → Page
after_looks rows mailbox zero p = p
after_looks rows mailbox (suc n) p = after_look rows mailbox (after_looks rows mailbox n p)

-- ---- a whole page

-- before which place of so many rows some are to be looked at, where those before this place are asked for, or all where it is 0
abbrev pub beginning : ℕ → ℕ → ℕ
beginning place rows = if place == 0 then rows else min place rows

abbrev pub page : ℕ → Option (List ℕ) → ℕ → List Row → Page
page now mailbox place rows =
    after_looks rows mailbox LOOKS (record { moment = now; left = beginning place (length rows); lines = 0; text = [] })

-- as it is sent
abbrev pub page_text : Page → List ℕ
page_text p = p.text ++ (if nat_lt 0 p.left then codes "more " ++ (decimal p.left ++ codes "\n") else [])

-- it goes into one datagram of 8 kB, also behind an `ok`
abbrev pub IsBounded : Page → Type 0
IsBounded p = (p.lines ≤ LINES) × (length p.text ≤ FULL + ROW)
