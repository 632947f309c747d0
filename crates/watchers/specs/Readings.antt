-- The rows as one reads them who asks for page after page, while they change.
use Rattle.std.specs.Prelude.{◌≡◌, ◌⊎◌, ◌<◌, ◌≤◌, ℕ, Bool, true, false, ◌&&◌, ◌==◌, List, [], ◌∷◌, ◌++◌, length, slice_get, Option, Some, bytes_eq}
use Rattle.std.specs.List.{AllByRecursion}
use Rattle.sip_text.specs.declared.address.Addr.{Addr}
use Rattle.watchers.specs.declared.page.TheConstants.{ROW}
use Rattle.watchers.specs.declared.row.Watcher.{Watcher}
use Rattle.watchers.specs.declared.watchers.TheConstants.{GONE}
use Rattle.watchers.specs.Notifies.{Known}
use Rattle.watchers.specs.Rows.{Row, has, after_notify, after_retarget, without, answered_rows}
use Rattle.watchers.specs.Pages.{Page, row_text, is_wanted, page}

-- ---- what becomes of the rows

-- what is done to them by one call
pub data Change : Type 0 where
  Notify : (now : ℕ) (tag : List ℕ) (number : ℕ) (to : Addr) (known : Known) → Change
  Retarget : (tag contact : List ℕ) → Change
  End : (tag : List ℕ) → Change
  Answer : (tag : List ℕ) (number status : ℕ) → Change

abbrev pub after : Change → List Row → List Row
after (Notify now tag number to known) rows = after_notify now tag number to known rows
after (Retarget tag contact) rows = after_retarget tag contact rows
after (End tag) rows = without tag rows
after (Answer tag number status) rows = answered_rows tag number status rows

abbrev pub after_all : List Change → List Row → List Row
after_all [] rows = rows
after_all (c ∷ cs) rows = after_all cs (after c rows)

-- it may end the row with this tag: that ends, or a NOTIFY of it is answered with 481
abbrev pub may_end : List ℕ → Change → Bool
may_end tag (Notify now other number to known) = false
may_end tag (Retarget other contact) = false
may_end tag (End other) = bytes_eq other tag
may_end tag (Answer other number status) = bytes_eq other tag && (status == GONE)

-- ---- pages

-- one page more is asked for: what was done since the page before, and the moment
pub record Turn : Type 0 where
  pub changes : List Change
  pub now : ℕ

abbrev pub AllSpare : List ℕ → List Change → Type 0
AllSpare tag changes = AllByRecursion (λ (c : Change). may_end tag c ≡ false) changes

-- nothing ends the row with this tag
abbrev pub Lives : List ℕ → List Turn → Type 0
Lives tag turns = AllByRecursion (λ (turn : Turn). AllSpare tag turn.changes) turns

abbrev pub page_at : Option (List ℕ) → ℕ → List Row → Turn → Page
page_at mailbox place rows turn = page turn.now mailbox place (after_all turn.changes rows)

-- each page is asked for before the place that the one before it names, and the last one names none
abbrev pub AreRead : Option (List ℕ) → ℕ → List Row → List Turn → Type 0
AreRead mailbox place rows [] = ⊥
AreRead mailbox place rows (turn ∷ []) = (page_at mailbox place rows turn).left ≡ 0
AreRead mailbox place rows (turn ∷ next ∷ turns) =
    (0 < (page_at mailbox place rows turn).left)
    × AreRead mailbox (page_at mailbox place rows turn).left (after_all turn.changes rows) (next ∷ turns)

-- ---- who is told

-- a text has this line
abbrev pub HasLine : List ℕ → List ℕ → Type 0
HasLine text line = (front rest : List ℕ) × (text ≡ front ++ (line ++ rest))

-- a page has the line of the row with this tag, if that is asked for and isn't too long
abbrev pub Tells : Option (List ℕ) → ℕ → List ℕ → List Row → Page → Type 0
Tells mailbox now tag rows p =
    (w : Watcher) × (k : ℕ) × (slice_get rows k ≡ Some (tag, w))
    × (is_wanted mailbox w ≡ true → length (row_text now tag w) ≤ ROW → HasLine p.text (row_text now tag w))

-- one of the pages does
abbrev pub IsTold : Option (List ℕ) → ℕ → List Row → List ℕ → List Turn → Type 0
IsTold mailbox place rows tag [] = ⊥
IsTold mailbox place rows tag (turn ∷ turns) =
    Tells mailbox turn.now tag (after_all turn.changes rows) (page_at mailbox place rows turn)
    ⊎ IsTold mailbox (page_at mailbox place rows turn).left (after_all turn.changes rows) tag turns

-- a row that lives all the time is told in one of the pages, whatever else begins, changes or ends between them
abbrev pub EachLivingRowIsTold : Type 0
EachLivingRowIsTold = (mailbox : Option (List ℕ)) (rows : List Row) (turns : List Turn) (tag : List ℕ)
    → has tag rows ≡ true → Lives tag turns → AreRead mailbox 0 rows turns → IsTold mailbox 0 rows tag turns
