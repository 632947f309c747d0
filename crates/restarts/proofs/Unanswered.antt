-- Where a row waits for an answer, its subscription's life does.
use Rattle.std.proofs.Common.{◌≡◌, ◌∙◌, ℕ, Bool, true, false, ◌&&◌, ◌||◌, ◌⊎◌, inl, inr, List, [], ◌∷◌, ◌++◌, Option, Some, None, bytes_eq, refl, sym, ap, subst}
use Prim.Native.Nat.{zero, suc}
use Rattle.std.specs.Prelude.{if◌then◌else◌, option_to_list}
use Rattle.std.specs.List.{list_any}
use Rattle.std.proofs.lemmas.List.Folds.{list_any-append}
use Rattle.std.proofs.lemmas.Slice.Eq.{bytes_eq-Decides}
use Rattle.notifier_model.specs.declared.event.Event.{Event}
use Rattle.notifier_model.specs.declared.row.Row.{Row}
use Rattle.notifier_model.specs.Book.{Book, step}
use Rattle.notifier_model.specs.Rows.{has_number}
use Rattle.notifier_model.specs.Run.{empty, run, run_from}
use Rattle.notifier_model.specs.Start.{Start, tag_of}
use Rattle.life.specs.Laws.{IsStart}
use Rattle.life.specs.Life.{Life, is_gone, unanswered}
use Rattle.life.specs.Lives.{births, life}
use Rattle.life.specs.Notices.{newest_first, onto}
use Rattle.life.proofs.Invariant.{Holds}
use Rattle.life.proofs.Law.{step_goes, empty_holds}
use Rattle.life.proofs.NextLives.{Ranges, ranges}
use Rattle.life.proofs.Rows.{live_row, row_of, rows_to, sub_of, usage_of}
use Rattle.notifier.specs.Awaiting.{awaits, is_unanswered}
use Rattle.restarts.specs.Laws.{IsOpenInLife, UnansweredLaw}

-- the book after these events
holds_from : (start : Start) (past es : List Event) (b : Book) → Ranges start.place.limits → Holds start past b → Holds start (onto past es) (run_from start.place b es)
unfolding run_from
holds_from start past [] b ok h = h
holds_from start past (e ∷ es) b ok h = holds_from start (e ∷ past) es (step start.place b e).book ok (step_goes start past e b ok h).book

either : (a b : Bool) → (a || b) ≡ true → (a ≡ true) ⊎ (b ≡ true)
either true b e = inl refl
either false b e = inr e

both : (a b : Bool) → (a && b) ≡ true → (a ≡ true) × (b ≡ true)
both true b e = (refl, e)
both false b e = absurd (cc)

module _ (start : Start) (tag : List ℕ) (number : ℕ) where
  -- the row of this life waits
  record Waits (serial : ℕ) (o : Option Life) : Type 0 where
    its_life : Life
    born : o ≡ Some its_life
    lives : is_gone start.place.limits its_life ≡ false
    waits : awaits tag number (row_of start serial its_life) ≡ true

  of_one : (o : Option Row) → list_any (awaits tag number) (option_to_list o) ≡ true → (row : Row) × (o ≡ Some row) × (awaits tag number row ≡ true)
  of_one None e = absurd (cc)
  of_one (Some row) e = (row, refl, first (awaits tag number row) e)
    where
      first : (b : Bool) → (b || false) ≡ true → b ≡ true
      first true e = refl
      first false e = absurd (cc)

  of_life : (serial : ℕ) (o : Option Life) → list_any (awaits tag number) (option_to_list (live_row start serial o)) ≡ true → Waits serial o
  unfolding live_row
  of_life serial None e = absurd (cc)
  of_life serial (Some l) e = by_end (is_gone start.place.limits l) refl e
    where
      by_end : (d : Bool) → is_gone start.place.limits l ≡ d → list_any (awaits tag number) (option_to_list (if d then None else Some (row_of start serial l))) ≡ true → Waits serial (Some l)
      by_end true f e = absurd (cc)
      by_end false f e = let w = of_one (Some (row_of start serial l)) e in record { its_life = l; born = refl; lives = f; waits = subst (λ (r : Row). awaits tag number r ≡ true) (same w.0 w.1) w.2 }
        where
          same : (row : Row) → Some (row_of start serial l) ≡ Some row → row ≡ row_of start serial l
          same row e = cc

  of_rows : (lives : ℕ → Option Life) (n : ℕ) → list_any (awaits tag number) (rows_to start lives n) ≡ true → (serial : ℕ) × Waits serial (lives serial)
  unfolding rows_to
  of_rows lives zero e = absurd (cc)
  of_rows lives (suc n) e =
      let here = option_to_list (live_row start (suc n) (lives (suc n))) in
      elim (either (list_any (awaits tag number) (rows_to start lives n)) (list_any (awaits tag number) here) (sym (list_any-append (awaits tag number) (rows_to start lives n) here) ∙ e))
      [ inl before ↦ of_rows lives n before | inr its ↦ (suc n, of_life (suc n) (lives (suc n)) its) ]

  parts : (serial : ℕ) (l : Life) → awaits tag number (row_of start serial l) ≡ true → (tag_of start.place serial ≡ tag) × (list_any (has_number number) (unanswered start.place.limits l) ≡ true)
  unfolding awaits row_of sub_of usage_of
  parts serial l e =
      let p = both (bytes_eq (tag_of start.place serial) tag) (list_any (has_number number) (unanswered start.place.limits l)) e in
      ((bytes_eq-Decides (tag_of start.place serial) tag).0 p.0, p.1)

pub unanswered_law : UnansweredLaw
unfolding run
unanswered_law start es tag number ok waits =
    let fits = ranges start.place.limits ok.limits in
    let holds = holds_from start [] es (empty start) fits (empty_holds start ok) in
    let found = of_rows start tag number (life start (newest_first es)) (births start (newest_first es)) (subst (λ (rows : List Row). list_any (awaits tag number) rows ≡ true) holds.rows_are waits) in
    let w = found.1 in
    let p = parts start tag number found.0 w.its_life w.waits in
    record { serial = found.0; its_life = w.its_life; born = w.born; lives = w.lives; tagged = p.0; is_open = p.1 }
