-- Questions for those that watch, and their pages.
use Rattle.std.proofs.Common.{◌≡◌, ℕ, List, Option, Some, None, refl, sym, subst}
use Rattle.std.specs.Prelude.{slice_get}
use Rattle.control_lines.specs.declared.answer.ControlAnswer.TheVariants as answer
use Rattle.control_lines.specs.declared.question.Question.TheVariants as question
use Rattle.control_lines.specs.Told.{Row, place}
use Rattle.watchers.specs.declared.inquiry.Inquiry.{Inquiry}
use Rattle.watchers.specs.Rows as watching
use Rattle.watchers.specs.Pages.{page, page_text}
use Rattle.service.specs.declared.lines.Handled.TheVariants as did
use Rattle.service.specs.Taken.{IsFound}
use Rattle.service.specs.Told.{IsInquiry, IsWatched, report}
use Rattle.service.specs.Watched.{IsPage}

-- ---- what a question asks for

module _ (rows : List Row) (from : ℕ) where
  pub found_any : (mailbox : Option (List ℕ)) → mailbox ≡ None → IsFound rows (question.Watchers mailbox from) (did.Watched None from)
  found_any None e = refl
  found_any (Some name) e = absurd cc

  pub found_one : (mailbox : Option (List ℕ)) (name : List ℕ) (n : ℕ) → mailbox ≡ Some name → place name rows ≡ Some n
      → IsFound rows (question.Watchers mailbox from) (did.Watched (Some n) from)
  found_one None name n e is = absurd cc
  found_one (Some other) name n e is = let same : other ≡ name = cc in (other, refl, subst (λ (x : List ℕ). place x rows ≡ Some n) (sym same) is)

  pub found_none : (mailbox : Option (List ℕ)) (name : List ℕ) → mailbox ≡ Some name → place name rows ≡ None
      → IsFound rows (question.Watchers mailbox from) (did.Answered answer.UnknownMailbox)
  found_none None name e is = absurd cc
  found_none (Some other) name e is = let same : other ≡ name = cc in subst (λ (x : List ℕ). place x rows ≡ None) (sym same) is

  pub asks_any : (n : Option ℕ) (q : Inquiry) → n ≡ None → q.mailbox ≡ None → q.place ≡ from → IsInquiry rows n from q
  asks_any None q e m p = (m, p)
  asks_any (Some n) q e m p = absurd cc

  pub asks_one : (n : Option ℕ) (k : ℕ) (row : Row) (q : Inquiry) → n ≡ Some k → slice_get rows k ≡ Some row → q.mailbox ≡ Some row.0 → q.place ≡ from
      → IsInquiry rows n from q
  asks_one None k row q e is m p = absurd cc
  asks_one (Some n) k row q e is m p =
      let same : n ≡ k = cc in (row, subst (λ (x : ℕ). slice_get rows x ≡ Some row) (sym same) is, m, p)

-- ---- its page

pub told_page : (q : Inquiry) (now : ℕ) (rows : List watching.Row) (octets : List ℕ) → octets ≡ page_text (page now q.mailbox q.place rows) → IsPage q octets
told_page q now rows octets e = ∣ (now, rows, e) ∣₁

pub page_as : (q p : Inquiry) (octets : List ℕ) → q ≡ p → IsPage q octets → IsPage p octets
page_as q p octets same is = subst (λ (x : Inquiry). IsPage x octets) same is

pub is_watched : (inquiry : Option Inquiry) (q : Inquiry) (lines octets : List ℕ) → inquiry ≡ Some q → IsPage q lines → octets ≡ report lines
    → (k : Inquiry) × (inquiry ≡ Some k) × IsWatched k octets
is_watched inquiry q lines octets is told e = (q, is, (lines, told, e))
