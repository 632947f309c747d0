-- What leads to the row of a dialog: the serial in its tag.
use Rattle.std.proofs.Common.{◌≡◌, ◌∙◌, sym, ap, refl, ℕ, ◌<◌, ◌≤◌, ◌^◌, Bool, true, false, ◌&&◌, List, [], ◌∷◌, Option, Some, None, cond, All, find, bytes_eq, arith}
use Rattle.std.proofs.lemmas.List.Elements.{All-nil, All-cons, All-head, All-tail}
use Rattle.std.proofs.lemmas.Slice.Eq.{bytes_eq-Decides}
use Rattle.sip_read.specs.declared.message.Request.{Request}
use Rattle.sip_read.specs.declared.message.Response.{Response}
use Rattle.notifier_model.specs.declared.place.Place.{Place}
use Rattle.notifier_model.specs.declared.row.Row.{Row}
use Rattle.notifier.specs.declared.store.rows.Rows.{Rows}
use Rattle.notifier_model.specs.Rows.{is_dialog}
use Rattle.notifier.specs.Sound.{IsOwn}
use Rattle.notifier.specs.Stored.{rows_of, row_at, IsIndexed, Gives}
use Rattle.notifier.proofs.Covers.{Leads}
use Rattle.notifier.proofs.Found.{passing, find_one, find_none}
use Rattle.notifier.proofs.Turning.{rows_rise, with_serial-rows}

all_weaker : (P Q : Row → Type 0) → ((row : Row) → P row → Q row) → (rows : List Row) → All P rows → All Q rows
all_weaker P Q f [] h = All-nil Q
all_weaker P Q f (row ∷ rows) h = All-cons Q row rows (f row (All-head P row rows h)) (all_weaker P Q f rows (All-tail P row rows h))

pub own_upto : (place : Place) (next most : ℕ) (rows : List Row) → next ≤ most → All (IsOwn place next) rows → All (IsOwn place most) rows
own_upto place next most rows l h =
    all_weaker (IsOwn place next) (IsOwn place most) (λ row own. record { given = let g : row.serial < next = own.given in omega arith; tagged = own.tagged }) rows h

-- a row with this local tag has the serial that the tag gives
own_gives : (place : Place) (tag : List ℕ) (serial : Option ℕ) (row : Row) → Gives place.worker tag serial → IsOwn place (2 ^ 32) row → tag ≡ row.sub.usage.local_tag → serial ≡ Some row.serial
own_gives place tag serial row gives own e = gives place row.serial refl own.given (e ∙ own.tagged)

split_and : (a b : Bool) → (a && b) ≡ true → (a ≡ true) × (b ≡ true)
split_and true b e = (refl, e)
split_and false b e = absurd (cc)

module _ (place : Place) (rows : List Row) (own : All (IsOwn place (2 ^ 32)) rows) where
  -- ---- a request in a dialog
  module _ (r : Request) (tag : List ℕ) where
    of_dialog : (serial : Option ℕ) → Gives place.worker tag serial → All (λ row. is_dialog r tag row ≡ true → serial ≡ Some row.serial) rows
    unfolding is_dialog
    of_dialog serial gives =
        all_weaker (IsOwn place (2 ^ 32)) (λ row. is_dialog r tag row ≡ true → serial ≡ Some row.serial)
        (λ row is e.
        let a = split_and (bytes_eq row.sub.usage.call_id r.head.call_id) _ e in
        let b = split_and (bytes_eq row.sub.usage.local_tag tag) _ a.1 in
        own_gives place tag serial row gives is (sym ((bytes_eq-Decides row.sub.usage.local_tag tag).0 b.0))) rows own

  -- ---- a response
  pub of_answer : (response : Response) (serial : Option ℕ) → ((tag : List ℕ) → response.head.from.tag ≡ Some tag → Gives place.worker tag serial) → All (Leads response serial) rows
  of_answer response serial gives =
      all_weaker (IsOwn place (2 ^ 32)) (Leads response serial)
      (λ row is tag from same. own_gives place tag serial row (gives tag from) is ((bytes_eq-Decides tag row.sub.usage.local_tag).0 same)) rows own

module _ (place : Place) (old : Rows) (i : IsIndexed old) (own : All (IsOwn place (2 ^ 32)) (rows_of old)) (r : Request) (tag : List ℕ) where
  pub no_serial : Gives place.worker tag None → find (is_dialog r tag) (rows_of old) ≡ None
  no_serial gives = find_none (is_dialog r tag) (rows_of old) (of_dialog place (rows_of old) own r tag None gives)

  pub by_serial : (serial : ℕ) → Gives place.worker tag (Some serial) → find (is_dialog r tag) (rows_of old) ≡ passing (is_dialog r tag) (row_at old serial)
  by_serial serial gives =
      find_one (is_dialog r tag) serial 0 (rows_of old) (rows_rise old i) (of_dialog place (rows_of old) own r tag (Some serial) gives)
      ∙ ap (passing (is_dialog r tag)) (with_serial-rows old serial i)

  module _ (serial : ℕ) (gives : Gives place.worker tag (Some serial)) where
    pub no_row : row_at old serial ≡ None → find (is_dialog r tag) (rows_of old) ≡ None
    unfolding passing
    no_row e = by_serial serial gives ∙ ap (passing (is_dialog r tag)) e

    pub its_row : (row : Row) → row_at old serial ≡ Some row → is_dialog r tag row ≡ true → find (is_dialog r tag) (rows_of old) ≡ Some row
    unfolding passing
    its_row row e h = by_serial serial gives ∙ ap (passing (is_dialog r tag)) e ∙ ap (λ b. cond b (Some row) None) h

    pub other_row : (row : Row) → row_at old serial ≡ Some row → is_dialog r tag row ≡ false → find (is_dialog r tag) (rows_of old) ≡ None
    unfolding passing
    other_row row e h = by_serial serial gives ∙ ap (passing (is_dialog r tag)) e ∙ ap (λ b. cond b (Some row) None) h
