-- Which NOTIFYs are unanswered.
use Rattle.std.specs.Prelude.{ℕ, Bool, false, ◌&&◌, List, Option, Some, None, bytes_eq}
use Rattle.std.specs.List.{list_any}
use Rattle.notifier_model.specs.declared.row.Row.{Row}
use Rattle.notifier_model.specs.Rows.{has_number}
use Rattle.notifier.specs.Standing.{Standing}

-- the row has this local tag, and the NOTIFY with this number waits for its answer there
unfoldable pub awaits : List ℕ → ℕ → Row → Bool
awaits tag number row = bytes_eq row.sub.usage.local_tag tag && list_any (has_number number) row.unanswered

-- the same of a row, if there is one
abbrev pub awaits_there : List ℕ → ℕ → Option Row → Bool
awaits_there tag number None = false
awaits_there tag number (Some row) = awaits tag number row

-- one of the rows does
abbrev pub is_unanswered : List Row → List ℕ → ℕ → Bool
is_unanswered rows tag number = list_any (awaits tag number) rows

-- the same of a desk, if it isn't spent
abbrev pub is_awaited : Option Standing → List ℕ → ℕ → Bool
is_awaited None tag number = false
is_awaited (Some s) tag number = is_unanswered s.book.rows tag number
