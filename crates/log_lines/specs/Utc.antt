-- The time of day of a line, as RFC 3339 section 5.6 writes it.
use Rattle.std.specs.Prelude.{◌≡◌, ℕ, ◌*◌, pos, List, ◌++◌, codes, false, Some}
use Rattle.jiff_core.specs.declared.civil.datetime.DateTime.{DateTime}
use Rattle.jiff_core.specs.DateTime.{civil_nanos}
use Rattle.jiff_core.specs.Timestamp.{IsTimestampNanos}
use Rattle.jiff_fmt.specs.Text.{datetime_text}

-- what a clock at UTC shows so many milliseconds after 1970 began, with three places of a fraction of a second, and then `Z`
abbrev pub IsUtc : ℕ → List ℕ → Type 0
IsUtc milliseconds text =
    (shown : DateTime) × (civil_nanos shown ≡ pos (milliseconds * 1000000)) × (text ≡ datetime_text false 84 (Some 3) shown ++ codes "Z")

-- so many milliseconds after 1970 began is a moment that has a time of day at every offset
abbrev pub HasUtc : ℕ → Type 0
HasUtc milliseconds = IsTimestampNanos (pos (milliseconds * 1000000))
