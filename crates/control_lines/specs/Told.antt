-- What a service was told of its mailboxes, by MAIL lines: a row for each, in order.
use Rattle.std.specs.Prelude.{◌≡◌, ℕ, Bool, List, [], ◌∷◌, ◌++◌, map, Option, position, if◌then◌else◌, bytes_eq, string_bytes, String}
use Rattle.std.specs.List.{fold, list_any, AllByRecursion}
use Rattle.std.specs.declared.alloc.Global.{Global}
use Rattle.package.specs.declared.counts.MailCounts.{MailCounts}
use Rattle.package.specs.Values.{MailChange}
use Rattle.package.specs.Changes.{with_counts, unset}

-- a mailbox, and the counts of each class that it was told of
abbrev pub Row : Type 0
Row = List ℕ × MailCounts

-- the rows that a map has
abbrev pub rows_in : List (String Global × MailCounts) → List Row
rows_in entries = map (λ (e : String Global × MailCounts). (string_bytes e.0, e.1)) entries

abbrev pub has : List ℕ → List Row → Bool
has name rows = list_any (λ (row : Row). bytes_eq name row.0) rows

-- the place of the mailbox with this name, if it is one of them
abbrev pub place : List ℕ → List Row → Option ℕ
place name rows = position (λ (row : Row). bytes_eq name row.0) rows

-- the mailbox with this name has these counts, if it is one of them
abbrev pub with_row : List ℕ → MailCounts → List Row → List Row
with_row name counts [] = []
with_row name counts (row ∷ rows) = if bytes_eq name row.0 then (row.0, counts) ∷ rows else row ∷ with_row name counts rows

-- ---- before anything was told

-- with this mailbox behind the others, unless it is one of them
abbrev pub with_name : List ℕ → List Row → List Row
with_name name rows = if has name rows then rows else rows ++ (name, unset) ∷ []

-- these mailboxes, each once, where it comes first, none of them told of any class
abbrev pub untold : List (List ℕ) → List Row
untold names = fold (λ (rows : List Row) name. with_name name rows) [] names

abbrev pub is_held : List (List ℕ) → List ℕ → Bool
is_held names name = list_any (λ held. bytes_eq name held) names

-- just the mailboxes with these names, none of them told of any class
pub record AreUntold (names : List (List ℕ)) (rows : List Row) : Type 0 where
  pub same : (name : List ℕ) → has name rows ≡ is_held names name
  pub none : AllByRecursion (λ (row : Row). row.1 ≡ unset) rows

-- ---- a MAIL line

-- the mailbox of the change has its counts now, and all else is as it was
abbrev pub told : MailChange → List Row → List Row
told m [] = []
told m (row ∷ rows) =
    if bytes_eq m.mailbox row.0 then (row.0, with_counts m.class m.counts row.1) ∷ rows else row ∷ told m rows
