-- The rows of a book have the tags of their serials, each of another serial.
use Rattle.std.proofs.Common.{◌≡◌, ◌≢◌, ℕ, ◌<◌, ◌≤◌, ◌^◌, List, [], ◌∷◌, ◌++◌, Option, Some, None, Bool, true, false, refl, sym, ap, ◌∙◌, subst, arith, All, AllPairs}
use Prim.Native.Nat.{zero, suc}
use Rattle.std.specs.Prelude.{if◌then◌else◌, option_to_list, IfSome}
use Rattle.std.proofs.lemmas.List.{append-nil}
use Rattle.std.proofs.lemmas.List.Elements.{All-nil, All-head, All-tail, All-push, All-weaker}
use Rattle.std.proofs.lemmas.List.Kept.{AllPairs-cons}
use Rattle.notifier_model.specs.declared.event.Event.{Event}
use Rattle.notifier_model.specs.declared.row.Row.{Row}
use Rattle.notifier_model.specs.Start.{Start, tag_of}
use Rattle.notifier_model.specs.Book.{Book, step}
use Rattle.notifier_model.specs.Run.{empty, run, run_from}
use Rattle.life.specs.Laws.{IsStart}
use Rattle.life.specs.Life.{Life, is_gone}
use Rattle.life.specs.Lives.{births, life}
use Rattle.life.specs.Notices.{onto, newest_first}
use Rattle.life.proofs.Rows.{row_of, sub_of, usage_of, live_row, rows_to}
use Rattle.life.proofs.NextLives.{Ranges, ranges}
use Rattle.life.proofs.AllRows.{born_small}
use Rattle.life.proofs.Invariant.{Holds}
use Rattle.life.proofs.Law.{step_goes, empty_holds}
use Rattle.life.specs.TagLaws.{tag_in, live_rows, HaveTwoTags, LiveLaw, OthersLaw}
use Rattle.life.proofs.TagTexts.{tags_apart}
use Rattle.life.proofs.Parts.{apart_law}

-- the row of this serial
abbrev IsRow : Start → ℕ → Row → Type 0
IsRow start s row = (row.serial ≡ s) × (tag_in row ≡ tag_of start.place s)

-- the row of some serial up to this one
abbrev IsBelow : Start → ℕ → Row → Type 0
IsBelow start n row = (row.serial ≤ n) × (tag_in row ≡ tag_of start.place row.serial)

live_row_is : (start : Start) (s : ℕ) (o : Option Life) → IfSome (live_row start s o) (IsRow start s)
unfolding live_row row_of sub_of usage_of
live_row_is start s None = tt
live_row_is start s (Some l) = by_end (is_gone start.place.limits l)
  where
    by_end : (d : Bool) → IfSome (if d then None else Some (row_of start s l)) (IsRow start s)
    by_end true = tt
    by_end false = (refl, refl)

-- no two of these share a tag
abbrev AllDiffer : List Row → Type 0
AllDiffer [] = Unit {0}
AllDiffer (row ∷ rows) = All (HaveTwoTags row) rows × AllDiffer rows

pairs_of : (rows : List Row) → AllDiffer rows → AllPairs HaveTwoTags rows
pairs_of [] differ = λ i j d lt within. absurd (omega arith)
pairs_of (row ∷ rows) differ = AllPairs-cons HaveTwoTags row rows differ.0 (pairs_of rows differ.1)

-- one row more, with another tag
differ_push : (rows : List Row) (row : Row) → AllDiffer rows → All (λ other. tag_in other ≢ tag_in row) rows → AllDiffer (rows ++ row ∷ [])
differ_push [] row differ alone = (All-nil (λ other. tag_in row ≢ tag_in other), tt)
differ_push (first ∷ rows) row differ alone = (
  All-push (λ other. tag_in first ≢ tag_in other) rows row differ.0 (All-head (λ other. tag_in other ≢ tag_in row) first rows alone),
  differ_push rows row differ.1 (All-tail (λ other. tag_in other ≢ tag_in row) first rows alone),
)

-- rows of serials up to this one, no two with one tag
record AreKnown (start : Start) (n : ℕ) (rows : List Row) : Type 0 where
  below : All (IsBelow start n) rows
  differ : AllDiffer rows

later : (start : Start) (n : ℕ) (rows : List Row) → All (IsBelow start n) rows → All (IsBelow start (suc n)) rows
later start n rows below = All-weaker (IsBelow start n) (IsBelow start (suc n)) (λ row h. (let le = h.0 in omega arith, h.1)) rows below

next_row : (start : Start) (n : ℕ) (rows : List Row) (o : Option Row) → suc n < 2 ^ 64 → AreKnown start n rows → IfSome o (IsRow start (suc n)) → AreKnown start (suc n) (rows ++ option_to_list o)
next_row start n rows None few known row = subst (AreKnown start (suc n)) (sym (append-nil rows)) (record { below = later start n rows known.below; differ = known.differ })
next_row start n rows (Some row) few known is = record {
  below = All-push (IsBelow start (suc n)) rows row (later start n rows known.below) (let s = is.0 in omega arith, is.1 ∙ ap (tag_of start.place) (sym is.0));
  differ = differ_push rows row known.differ
      (All-weaker (IsBelow start n) (λ other. tag_in other ≢ tag_in row)
      (λ other h same. let le = h.0 in let e = tags_apart start other.serial (suc n) (omega arith) few (sym h.1 ∙ same ∙ is.1) in omega arith) rows known.below);
}

known_to : (start : Start) (lives : ℕ → Option Life) (n : ℕ) → n < 2 ^ 64 → AreKnown start n (rows_to start lives n)
unfolding rows_to
known_to start lives zero few = record { below = All-nil (IsBelow start 0); differ = tt }
known_to start lives (suc n) few =
    next_row start n (rows_to start lives n) (live_row start (suc n) (lives (suc n))) few (known_to start lives n (omega arith)) (live_row_is start (suc n) (lives (suc n)))

-- the book after these events
holds_from : (start : Start) (past es : List Event) (b : Book) → Ranges start.place.limits → Holds start past b → Holds start (onto past es) (run_from start.place b es)
unfolding run_from
holds_from start past [] b ok h = h
holds_from start past (e ∷ es) b ok h = holds_from start (e ∷ past) es (step start.place b e).book ok (step_goes start past e b ok h).book

known : (start : Start) (es : List Event) → IsStart start → AreKnown start (births start (newest_first es)) (live_rows start es)
unfolding run
known start es ok =
    let fits = ranges start.place.limits ok.limits in
    let holds = holds_from start [] es (empty start) fits (empty_holds start ok) in
    let n : ℕ = births start (newest_first es) in
    subst (AreKnown start n) (sym holds.rows_are) (known_to start (life start (newest_first es)) n (born_small start (newest_first es) n fits (omega arith)))

pub live_law : LiveLaw
live_law start es ok = pairs_of (live_rows start es) (known start es ok).differ

-- a row that is known has a serial of the type's size
few_of : (start : Start) (es : List Event) (row : Row) → IsStart start → IsBelow start (births start (newest_first es)) row → row.serial < 2 ^ 64
few_of start es row ok h = born_small start (newest_first es) row.serial (ranges start.place.limits ok.limits) (let le = h.0 in omega arith)

pub others_law : OthersLaw
others_law start other es fs ok also small below apart =
    All-weaker (IsBelow start (births start (newest_first es))) (λ row. All (HaveTwoTags row) (live_rows other fs))
    (λ row h. All-weaker (IsBelow other (births other (newest_first fs))) (HaveTwoTags row)
    (λ another k same. apart (apart_law start.place other.place row.serial another.serial small below (few_of start es row ok h) (few_of other fs another also k) (sym h.1 ∙ same ∙ k.1)).0)
    (live_rows other fs) (known other fs also).below)
    (live_rows start es) (known start es ok).below
