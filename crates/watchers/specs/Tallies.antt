-- How many rows each source has. The source of a row is the IPv4 address of who asked for its subscription, as a number: its first NOTIFY
-- went there.
use Rattle.std.specs.Prelude.{◌≡◌, ℕ, ◌==◌, List, count_by, nat_eq}
use Rattle.std.specs.Map.{lookup, count_at}
use Rattle.watchers.specs.Rows.{Row}

-- how many of the rows are of this source
abbrev pub rows_from : List Row → ℕ → ℕ
rows_from rows source = count_by (λ (row : Row). row.1.source == source) rows

-- how much these counts tell of a source
abbrev pub tally : List (ℕ × ℕ) → ℕ → ℕ
tally counts source = count_at (λ k. lookup (nat_eq k) counts) source

-- they count the rows of each source
abbrev pub AreCounted : List Row → List (ℕ × ℕ) → Type 0
AreCounted rows counts = (source : ℕ) → tally counts source ≡ rows_from rows source
