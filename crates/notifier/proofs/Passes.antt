-- A rule for all rows is told by the serials of those that it changes.
use Rattle.std.proofs.Common.{◌≡◌, ◌≢◌, ◌∙◌, sym, ap, refl, inl, inr, ℕ, ◌+◌, ◌<◌, ◌≤◌, Bool, true, false, cond, List, [], ◌∷◌, ◌++◌, Option, Some, None, arith, ◌==◌, eq-eqb, option_to_list, IfSome}
use Rattle.std.proofs.lemmas.Bool.{cases_eq}
use Rattle.std.specs.Option.{option_and_then}
use Rattle.notifier_model.specs.declared.row.Row.{Row}
use Rattle.notifier_model.specs.Out.{Send}
use Rattle.notifier_model.specs.Rows.{Turned, wherever, stays, sweep, only}
use Rattle.notifier.specs.declared.store.rows.Rows.{Rows}
use Rattle.notifier.specs.Stored.{rows_of, row_at, with_serial, IsIndexed, Turns}
use Rattle.notifier.proofs.Rising.{Rises, neq-eqb, with_serial-same, with_serial-other, with_serial-below}
use Rattle.notifier.proofs.Turning.{rows_rise, with_serial-rows, rows_are}

-- what a rule leaves of all rows, says of them, and takes with those that go
abbrev pub left : (Row → Turned) → List Row → List Row
left rule rows = (sweep rule rows).rows

abbrev pub said : (Row → Turned) → List Row → List Send
said rule rows = (sweep rule rows).notifies

abbrev pub gone : (Row → Turned) → List Row → List (List ℕ)
gone rule rows = (sweep rule rows).gone

-- a rule that lets each row that stays keep its serial
abbrev pub KeepsSerials : (Row → Turned) → Type 0
KeepsSerials rule = (row : Row) → IfSome (rule row).row (λ r. r.serial ≡ row.serial)

module _ (serial : ℕ) (rule : Row → Turned) where
  pub only-same : (row : Row) → row.serial ≡ serial → only serial rule row ≡ rule row
  unfolding only wherever
  only-same row e = rw (eq-eqb row.serial serial e) refl

  pub only-other : (row : Row) → row.serial ≢ serial → only serial rule row ≡ stays row
  unfolding only wherever
  only-other row d = rw (neq-eqb row.serial serial d) refl

-- a row before others
pub left-stays : (rule : Row → Turned) (row : Row) (rows : List Row) → rule row ≡ stays row → left rule (row ∷ rows) ≡ row ∷ left rule rows
unfolding sweep stays
left-stays rule row rows e = ap (λ t. option_to_list t.row ++ left rule rows) e

pub left-told : (rule : Row → Turned) (row : Row) (rows : List Row) (t : Turned) → rule row ≡ t → left rule (row ∷ rows) ≡ option_to_list t.row ++ left rule rows
unfolding sweep
left-told rule row rows t e = ap (λ t. option_to_list t.row ++ left rule rows) e

-- ---- one serial
module _ (serial : ℕ) (rule : Row → Turned) (keeps : KeepsSerials rule) where
  none_left : (low : ℕ) (rows : List Row) → Rises low rows → serial < low → left (only serial rule) rows ≡ rows
  unfolding sweep
  none_left low [] rises below = refl
  none_left low (row ∷ rows) rises below =
      let d : row.serial ≢ serial = omega arith in
      left-stays (only serial rule) row rows (only-other serial rule row d) ∙ ap (λ l. row ∷ l) (none_left (row.serial + 1) rows rises.1 (omega arith))

  rises_option : (low key : ℕ) (o : Option Row) (rows : List Row) → low ≤ key → IfSome o (λ r. r.serial ≡ key) → Rises (key + 1) rows → Rises low (option_to_list o ++ rows)
  rises_option low key None rows l h rises = lower rows rises
    where
      lower : (rows : List Row) → Rises (key + 1) rows → Rises low rows
      lower [] rises = tt
      lower (r ∷ rs) rises = (omega arith, rises.1)
  rises_option low key (Some row) rows l h rises = (omega arith, rw h rises)

  pub rises_left : (low : ℕ) (rows : List Row) → Rises low rows → Rises low (left (only serial rule) rows)
  unfolding sweep
  rises_left low [] rises = tt
  rises_left low (row ∷ rows) rises = elim (cases_eq row.serial serial) [
    | inl e ↦ rw (left-told (only serial rule) row rows (rule row) (only-same serial rule row e)) (rises_option low row.serial (rule row).row (left (only serial rule) rows) rises.0 (keeps row) (rises_left (row.serial + 1) rows rises.1))
    | inr d ↦ rw (left-stays (only serial rule) row rows (only-other serial rule row d)) (rises.0, rises_left (row.serial + 1) rows rises.1)
  ]

  with_option : (s key : ℕ) (o : Option Row) (rows : List Row) → IfSome o (λ r. r.serial ≡ key) → with_serial key rows ≡ None → with_serial s (option_to_list o ++ rows) ≡ cond (key == s) o (with_serial s rows)
  with_option s key None rows h n = elim (cases_eq key s) [
    | inl e ↦ rw (eq-eqb key s e) (ap (λ k. with_serial k rows) (sym e) ∙ n)
    | inr d ↦ rw (neq-eqb key s d) refl
  ]
  with_option s key (Some row) rows h n = elim (cases_eq key s) [
    | inl e ↦ rw (eq-eqb key s e) (with_serial-same s row rows (h ∙ e))
    | inr d ↦ rw (neq-eqb key s d) (with_serial-other s row rows (λ q. d (sym h ∙ q)))
  ]

  pub with_serial-left : (s low : ℕ) (rows : List Row) → Rises low rows → with_serial s (left (only serial rule) rows) ≡ cond (serial == s) (option_and_then (λ r. (rule r).row) (with_serial serial rows)) (with_serial s rows)
  unfolding sweep
  with_serial-left s low [] rises = at_none (serial == s)
    where
      at_none : (b : Bool) → None ≡ cond b (option_and_then {T = Row} {U = Row} (λ r. (rule r).row) None) None
      at_none true = refl
      at_none false = refl
  with_serial-left s low (row ∷ rows) rises = elim (cases_eq row.serial serial) [
    | inl e ↦
        let later : with_serial serial rows ≡ None = with_serial-below (row.serial + 1) serial rows rises.1 (omega arith) in
        let gone = none_left (row.serial + 1) rows rises.1 (omega arith) in
        ap (with_serial s) (left-told (only serial rule) row rows (rule row) (only-same serial rule row e) ∙ ap (λ l. option_to_list (rule row).row ++ l) gone)
        ∙ with_option s serial (rule row).row rows (own row e (rule row).row (keeps row)) later
        ∙ both row e rows
    | inr d ↦
        ap (with_serial s) (left-stays (only serial rule) row rows (only-other serial rule row d))
        ∙ elim (cases_eq row.serial s) [
          | inl e ↦
              let n : serial ≢ s = λ q. d (e ∙ sym q) in
              with_serial-same s row (left (only serial rule) rows) e ∙ sym (rw (neq-eqb serial s n) (with_serial-same s row rows e))
          | inr n ↦
              with_serial-other s row (left (only serial rule) rows) n
              ∙ with_serial-left s (row.serial + 1) rows rises.1
              ∙ ap (λ o. cond (serial == s) (option_and_then (λ r. (rule r).row) o) (with_serial s rows)) (sym (with_serial-other serial row rows d))
              ∙ ap (λ o. cond (serial == s) (option_and_then (λ r. (rule r).row) (with_serial serial (row ∷ rows))) o) (sym (with_serial-other s row rows n))
        ]
  ]
    where
      own : (row : Row) → row.serial ≡ serial → (o : Option Row) → IfSome o (λ r. r.serial ≡ row.serial) → IfSome o (λ r. r.serial ≡ serial)
      own row e None h = tt
      own row e (Some r) h = h ∙ e

      both : (row : Row) → row.serial ≡ serial → (rows : List Row) → cond (serial == s) (rule row).row (with_serial s rows) ≡ cond (serial == s) (option_and_then (λ r. (rule r).row) (with_serial serial (row ∷ rows))) (with_serial s (row ∷ rows))
      both row e rows = elim (cases_eq serial s) [
        | inl q ↦ rw (eq-eqb serial s q, with_serial-same serial row rows e) refl
        | inr n ↦ rw (neq-eqb serial s n) (sym (with_serial-other s row rows (λ q. n (sym e ∙ q))))
      ]

  -- the list after a step at one serial
  pub turned_list : (old new : Rows) → IsIndexed old → IsIndexed new → Turns old new serial (option_and_then (λ r. (rule r).row) (row_at old serial)) → rows_of new ≡ left (only serial rule) (rows_of old)
  turned_list old new i j t =
      rows_are new (left (only serial rule) (rows_of old)) j (rises_left 0 (rows_of old) (rows_rise old i))
      (λ s. t.at s
      ∙ ap (λ o. cond (serial == s) (option_and_then (λ r. (rule r).row) o) (row_at old s)) (sym (with_serial-rows old serial i))
      ∙ ap (λ o. cond (serial == s) (option_and_then (λ r. (rule r).row) (with_serial serial (rows_of old))) o) (sym (with_serial-rows old s i))
      ∙ sym (with_serial-left s 0 (rows_of old) (rows_rise old i)))
