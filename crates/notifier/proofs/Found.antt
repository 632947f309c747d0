-- A search among rising rows for what only the row with one serial can pass, if any can.
use Rattle.std.proofs.Common.{◌≡◌, ◌⊎◌, ◌∙◌, sym, ap, refl, inl, inr, ℕ, ◌+◌, ◌<◌, Bool, true, false, cond, List, [], ◌∷◌, Option, Some, None, arith, find, All}
use Rattle.std.proofs.lemmas.Bool.{cases_eq}
use Rattle.std.proofs.lemmas.List.Elements.{All-nil, All-cons, All-head, All-tail}
use Rattle.notifier_model.specs.declared.row.Row.{Row}
use Rattle.notifier.specs.Stored.{with_serial}
use Rattle.notifier.proofs.Rising.{Rises, with_serial-same, with_serial-other}

unfoldable pub passing : (Row → Bool) → Option Row → Option Row
passing p None = None
passing p (Some row) = cond (p row) (Some row) None

tested : (b : Bool) → (b ≡ true) ⊎ (b ≡ false)
tested true = inl refl
tested false = inr refl

module _ (p : Row → Bool) where
  none_found : (rows : List Row) → All (λ row. p row ≡ true → ⊥) rows → find p rows ≡ None
  none_found [] none = refl
  none_found (row ∷ rows) none = elim (tested (p row)) [
    | inl h ↦ absurd (All-head (λ row. p row ≡ true → ⊥) row rows none h)
    | inr h ↦ rw h (none_found rows (All-tail (λ row. p row ≡ true → ⊥) row rows none))
  ]

  -- a row above the serial doesn't pass
  none_above : (serial low : ℕ) (rows : List Row) → Rises low rows → serial < low → All (λ row. p row ≡ true → Some serial ≡ Some row.serial) rows → All (λ row. p row ≡ true → ⊥) rows
  none_above serial low [] rises below one = All-nil (λ row. p row ≡ true → ⊥)
  none_above serial low (row ∷ rows) rises below one =
      let first = All-head (λ row. p row ≡ true → Some serial ≡ Some row.serial) row rows one in
      All-cons (λ row. p row ≡ true → ⊥) row rows (λ h. let e : serial ≡ row.serial = cc (first h) in let l = rises.0 in omega arith)
      (none_above serial (row.serial + 1) rows rises.1 (let l = rises.0 in omega arith) (All-tail (λ row. p row ≡ true → Some serial ≡ Some row.serial) row rows one))

  pub find_one : (serial low : ℕ) (rows : List Row) → Rises low rows → All (λ row. p row ≡ true → Some serial ≡ Some row.serial) rows → find p rows ≡ passing p (with_serial serial rows)
  unfolding passing
  find_one serial low [] rises one = refl
  find_one serial low (row ∷ rows) rises one = elim (cases_eq row.serial serial) [
    | inl e ↦
        let later = none_above serial (row.serial + 1) rows rises.1 (omega arith) (All-tail (λ row. p row ≡ true → Some serial ≡ Some row.serial) row rows one) in
        ap (cond (p row) (Some row)) (none_found rows later) ∙ sym (ap (passing p) (with_serial-same serial row rows e))
    | inr d ↦ elim (tested (p row)) [
      | inl h ↦ let q : serial ≡ row.serial = cc (All-head (λ row. p row ≡ true → Some serial ≡ Some row.serial) row rows one h) in absurd (d (sym q))
      | inr h ↦
          rw h (find_one serial (row.serial + 1) rows rises.1 (All-tail (λ row. p row ≡ true → Some serial ≡ Some row.serial) row rows one))
          ∙ sym (ap (passing p) (with_serial-other serial row rows d))
    ]
  ]

  pub find_none : (rows : List Row) → All (λ row. p row ≡ true → None ≡ Some row.serial) rows → find p rows ≡ None
  find_none [] one = refl
  find_none (row ∷ rows) one = elim (tested (p row)) [
    | inl h ↦ let q = All-head (λ row. p row ≡ true → None ≡ Some row.serial) row rows one h in absurd (cc)
    | inr h ↦ rw h (find_none rows (All-tail (λ row. p row ≡ true → None ≡ Some row.serial) row rows one))
  ]
