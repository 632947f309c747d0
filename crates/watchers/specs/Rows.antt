-- The live subscriptions as rows, each behind the local tag of its dialog, and what is made of them where a NOTIFY goes out, an
-- answer comes, or one ends.
use Rattle.std.specs.Prelude.{ℕ, Bool, false, ◌&&◌, ◌==◌, not, max, nat_lt, nat_le, List, [], ◌∷◌, ◌++◌, length, map, Option, Some, None, is_some, if◌then◌else◌, bytes_eq, string_bytes, String}
use Rattle.indexmap.specs.IndexMap.{swap_remove_by}
use Rattle.std.specs.Option.{option_map_or}
use Rattle.std.specs.declared.alloc.Global.{Global}
use Rattle.sip_text.specs.declared.address.Addr.{Addr}
use Rattle.watchers.specs.Notifies.{Known, word, until, first_row}
use Rattle.watchers.specs.declared.row.Watcher.{Watcher}
use Rattle.watchers.specs.declared.watchers.TheConstants.{GONE, FINAL, REFUSED}

-- a subscription's tag, and what is known of it
abbrev pub Row : Type 0
Row = List ℕ × Watcher

-- how many rows there may be, and those that there are, in order
pub record Standing : Type 0 where
  pub limit : ℕ
  pub rows : List Row

-- the rows that a map has
abbrev pub rows_in : List (String Global × Watcher) → List Row
rows_in entries = map (λ (e : String Global × Watcher). (string_bytes e.0, e.1)) entries

-- what is known of the subscription with this tag
abbrev pub found : List ℕ → List Row → Option Watcher
found tag [] = None
found tag (row ∷ rows) = if bytes_eq tag row.0 then Some row.1 else found tag rows

abbrev pub has : List ℕ → List Row → Bool
has tag rows = is_some (found tag rows)

-- the row with this tag is changed so
abbrev pub changed : List ℕ → (Watcher → Watcher) → List Row → List Row
changed tag change [] = []
changed tag change (row ∷ rows) = if bytes_eq tag row.0 then (row.0, change row.1) ∷ rows else row ∷ changed tag change rows

-- ---- a NOTIFY went out

abbrev pub renewed : ℕ → Addr → ℕ → Watcher → Watcher
renewed number to until w = record w { sent = number; to = to; until = until }

-- a row begins with it: there is none, since it is the first NOTIFY, or since an earlier one was given up and its subscription goes on
abbrev pub begins : List ℕ → List Row → Bool
begins tag rows = not (has tag rows)

-- a row that begins stands behind the others
abbrev pub after_notify : ℕ → List ℕ → ℕ → Addr → Known → List Row → List Row
after_notify now tag number to known rows =
    if begins tag rows then rows ++ (tag, first_row now number to known) ∷ []
    else changed tag (renewed number to (until now known.seconds)) rows

-- ---- it went to another Contact: its request in the dialog had that (a target refresh, RFC 3261 section 12.2)

abbrev pub retargeted : List ℕ → Watcher → Watcher
retargeted contact w = record w { contact = contact }

abbrev pub after_retarget : List ℕ → List ℕ → List Row → List Row
after_retarget tag contact rows = changed tag (retargeted (word contact)) rows

-- ---- one ended

-- the last row takes the place of its row
abbrev pub without : List ℕ → List Row → List Row
without tag rows = swap_remove_by (λ (row : Row). bytes_eq tag row.0) rows

-- ---- an answer came

-- the NOTIFY with this number was answered with this status code, which stands there unless a later one was answered before
abbrev pub answered : ℕ → ℕ → Watcher → Watcher
answered number code w = record w { answered = max w.answered number; code = if nat_le w.answered number then code else w.code }

-- a final answer that is neither a success nor says that the subscription is gone (RFC 3261 section 7.2)
abbrev pub refuses : ℕ → Bool
refuses code = nat_le REFUSED code && not (code == GONE)

-- such an answer to a NOTIFY that went out, and neither it nor a later one was answered before
abbrev pub is_refused : ℕ → ℕ → Watcher → Bool
is_refused number code w = refuses code && (nat_lt w.answered number && nat_le number w.sent)

-- a NOTIFY with this number went out
abbrev pub was_sent : List ℕ → ℕ → List Row → Bool
was_sent tag number rows = option_map_or (λ (w : Watcher). nat_le number w.sent) (found tag rows) false

-- A 481 says that the subscription is gone (RFC 6665 section 4.2.2). A provisional answer changes nothing, nor does one to what never
-- went out.
abbrev pub answered_rows : List ℕ → ℕ → ℕ → List Row → List Row
answered_rows tag number status rows =
    if nat_lt status FINAL then rows
    else if not (was_sent tag number rows) then rows
    else if status == GONE then without tag rows
    else changed tag (answered number status) rows
