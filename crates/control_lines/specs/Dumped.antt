-- What one gets who asks for one page of the counts after the other.
use Rattle.std.specs.Prelude.{◌≡◌, ℕ, ◌+◌, false, List, [], ◌∷◌, ◌++◌, Option, Some, None}
use Rattle.std.specs.List.{flat_map}
use Rattle.package.specs.Values.{MailChange}
use Rattle.control_lines.specs.Told.{Row, has, place, with_name, untold, told}
use Rattle.control_lines.specs.Pages.{told_lines, more_line, dump_text}

-- no two mailboxes have one name
abbrev pub AreDistinct : List Row → Type 0
AreDistinct [] = Unit {0}
AreDistinct (row ∷ rows) = (has row.0 rows ≡ false) × AreDistinct rows

-- the lines of these mailboxes
abbrev pub lines : List Row → List ℕ
lines rows = flat_map (λ (row : Row). told_lines row.0 row.1) rows

-- a page: MAIL lines, and the mailbox behind which the next page goes on, if one does
pub record Page : Type 0 where
  pub mail : List ℕ
  pub more : Option (List ℕ)

abbrev pub last_line : Option (List ℕ) → List ℕ
last_line None = []
last_line (Some name) = more_line name

abbrev pub page_text : Page → List ℕ
page_text page = page.mail ++ last_line page.more

-- the pages that come from this place on, where each next one is asked for behind the mailbox that the one before it names
abbrev pub AreGot : List Row → ℕ → List Page → Type 0
AreGot rows from [] = ⊥
AreGot rows from (page ∷ []) = (dump_text rows from ≡ page_text page) × (page.more ≡ None)
AreGot rows from (page ∷ next ∷ pages) =
    (dump_text rows from ≡ page_text page)
    × (name : List ℕ) × (page.more ≡ Some name) × (n : ℕ) × (place name rows ≡ Some n) × AreGot rows (n + 1) (next ∷ pages)

-- the pages that come from the first mailbox on have the lines of each mailbox once, in order
abbrev pub EachIsToldOnce : Type 0
EachIsToldOnce = (rows : List Row) → AreDistinct rows → (pages : List Page) × AreGot rows 0 pages × (flat_map (λ (page : Page). page.mail) pages ≡ lines rows)

-- no two mailboxes have one name at the beginning, nor where one more comes, nor where one is told of
pub record StayDistinct : Type 0 where
  pub begun : (names : List (List ℕ)) → AreDistinct (untold names)
  pub added : (name : List ℕ) (rows : List Row) → AreDistinct rows → AreDistinct (with_name name rows)
  pub changed : (change : MailChange) (rows : List Row) → AreDistinct rows → AreDistinct (told change rows)
