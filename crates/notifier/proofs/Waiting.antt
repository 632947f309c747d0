-- The row that waits for the answer to a NOTIFY is found by the serial in its tag.
use Rattle.std.proofs.Common.{◌≡◌, ◌∙◌, sym, ap, refl, ℕ, ◌<◌, ◌≤◌, ◌^◌, Bool, true, false, ◌&&◌, ◌||◌, List, [], ◌∷◌, Option, Some, None, All, find, bytes_eq}
use Rattle.std.specs.Prelude.{is_some}
use Rattle.std.specs.List.{list_any}
use Rattle.std.proofs.lemmas.List.Elements.{All-weaker}
use Rattle.std.proofs.lemmas.Slice.Eq.{bytes_eq-Decides}
use Rattle.notifier_model.specs.declared.place.Place.{Place}
use Rattle.notifier_model.specs.declared.row.Row.{Row}
use Rattle.notifier_model.specs.Rows.{has_number}
use Rattle.notifier.specs.declared.store.rows.Rows.{Rows}
use Rattle.notifier.specs.Awaiting.{awaits, awaits_there, is_unanswered}
use Rattle.notifier.specs.Sound.{IsOwn}
use Rattle.notifier.specs.Stored.{rows_of, row_at, IsIndexed, Gives}
use Rattle.notifier.proofs.Dialogs.{own_upto}
use Rattle.notifier.proofs.Found.{passing, find_one, find_none}
use Rattle.notifier.proofs.Turning.{rows_rise, with_serial-rows}

any_by_test : (p : Row → Bool) (row : Row) (rows : List Row) (b : Bool) → p row ≡ b → list_any p rows ≡ is_some (find p rows) → list_any p (row ∷ rows) ≡ is_some (find p (row ∷ rows))
any_by_test p row rows true e h = rw e refl
any_by_test p row rows false e h = rw e h

any_found : (p : Row → Bool) (rows : List Row) → list_any p rows ≡ is_some (find p rows)
any_found p [] = refl
any_found p (row ∷ rows) = any_by_test p row rows (p row) refl (any_found p rows)

first_of_both : (a b : Bool) → (a && b) ≡ true → a ≡ true
first_of_both true b e = refl
first_of_both false b e = absurd (cc)

passes : (p : Row → Bool) (row : Row) (b : Bool) → p row ≡ b → is_some (passing p (Some row)) ≡ b
unfolding passing
passes p row true e = rw e refl
passes p row false e = rw e refl

module _ (place : Place) (next : ℕ) (old : Rows) (i : IsIndexed old) (fits : next ≤ 2 ^ 32) (own : All (IsOwn place next) (rows_of old)) (tag : List ℕ) (number : ℕ) where
  of_serial : (serial : Option ℕ) → Gives place.worker tag serial → All (λ row. awaits tag number row ≡ true → serial ≡ Some row.serial) (rows_of old)
  unfolding awaits
  of_serial serial gives =
      All-weaker (IsOwn place (2 ^ 32)) (λ row. awaits tag number row ≡ true → serial ≡ Some row.serial)
      (λ row is e.
      let same = (bytes_eq-Decides row.sub.usage.local_tag tag).0 (first_of_both (bytes_eq row.sub.usage.local_tag tag) (list_any (has_number number) row.unanswered) e) in
      gives place row.serial refl is.given (sym same ∙ is.tagged)) (rows_of old) (own_upto place next (2 ^ 32) (rows_of old) fits own)

  pub no_serial : Gives place.worker tag None → is_unanswered (rows_of old) tag number ≡ false
  no_serial gives = any_found (awaits tag number) (rows_of old) ∙ ap is_some (find_none (awaits tag number) (rows_of old) (of_serial None gives))

  module _ (serial : ℕ) (gives : Gives place.worker tag (Some serial)) where
    by_serial : is_unanswered (rows_of old) tag number ≡ is_some (passing (awaits tag number) (row_at old serial))
    by_serial =
        any_found (awaits tag number) (rows_of old)
        ∙ ap is_some (find_one (awaits tag number) serial 0 (rows_of old) (rows_rise old i) (of_serial (Some serial) gives) ∙ ap (passing (awaits tag number)) (with_serial-rows old serial i))

    pub its_row : is_unanswered (rows_of old) tag number ≡ awaits_there tag number (row_at old serial)
    its_row = by_serial ∙ there (row_at old serial)
      where
        there : (o : Option Row) → is_some (passing (awaits tag number) o) ≡ awaits_there tag number o
        there None = unfold passing in refl
        there (Some row) = passes (awaits tag number) row (awaits tag number row) refl
