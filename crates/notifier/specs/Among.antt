-- A rule for the rows with some serials alone.
use Rattle.std.specs.Prelude.{◌≡◌, ◌⊎◌, ℕ, Bool, true, false, ◌||◌, ◌==◌, ◌+◌, ◌≤◌, List, [], ◌∷◌, Option, Some, None, if◌then◌else◌}
use Rattle.notifier_model.specs.declared.row.Row.{Row}
use Rattle.notifier_model.specs.Out.{Send}
use Rattle.notifier_model.specs.Rows.{Turned, stays, gone_at}
use Rattle.notifier.specs.Stored.{with_serial}

abbrev pub has : ℕ → List ℕ → Bool
has serial [] = false
has serial (s ∷ ss) = (s == serial) || has serial ss

unfoldable pub among : List ℕ → (Row → Turned) → Row → Turned
among serials rule row = if has row.serial serials then rule row else stays row

-- numbers rise, from low on
abbrev pub RiseFrom : ℕ → List ℕ → Type 0
RiseFrom low [] = Unit {0}
RiseFrom low (s ∷ ss) = (low ≤ s) × RiseFrom (s + 1) ss

-- any row without one of these serials stays by the rule
abbrev pub Cover : List ℕ → (Row → Turned) → List Row → Type 0
Cover serials rule rows =
    (serial : ℕ) (row : Row) → with_serial serial rows ≡ Some row → (has serial serials ≡ true) ⊎ (rule row ≡ stays row)

-- the NOTIFYs of a row, if there is one
abbrev pub said_at : (Row → Turned) → Option Row → List Send
said_at rule None = []
said_at rule (Some row) = (rule row).notifies

-- the transfer that goes with it
abbrev pub gone_with : (Row → Turned) → Option Row → List (List ℕ)
gone_with rule None = []
gone_with rule (Some row) = gone_at rule row
