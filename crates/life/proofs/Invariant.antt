-- What the book is after each list of events.
use Rattle.std.proofs.Common.{◌≡◌, ℕ, ◌+◌, ◌<◌, ◌≤◌, ◌^◌, List, [], ◌∷◌, ◌++◌, Option, Some, None, Bool, true, false, ◌&&◌, refl, sym, ◌∙◌, ap, subst, arith, ◌⊎◌, inl, inr}
use Prim.Native.Nat.{zero, suc}
use Rattle.std.specs.Prelude.{if◌then◌else◌, take, is_some, is_none, bytes_eq, option_map, option_to_list}
use Rattle.package.specs.Content.{finite_maps, Content, OfStatus, refer_package, Seen}
use Rattle.life.proofs.Texts.{Bytes, bytes_other_way, if_is}
use Rattle.package.specs.declared.change.Change.TheVariants.{Forget}
use Rattle.package.specs.Boxes.{first_box, content_in}
use Rattle.notifier_model.specs.Start.{Start, tag_of}
use Rattle.notifier_model.specs.declared.event.Event.{Event}
use Rattle.notifier_model.specs.declared.row.Key.{Key}
use Rattle.notifier_model.specs.Requests.{is_refer, event_of, is_of_refer}
use Rattle.notifier_model.specs.declared.row.Row.{Row}
use Rattle.notifier_model.specs.declared.row.Kept.{Kept}
use Rattle.notifier_model.specs.Book.{SteppedBy, Book}
use Rattle.notifier_model.specs.Rows.{gone_at, sweep, Turned, forgetting}
use Rattle.notifier_model.specs.Out.{notifications}
use Rattle.life.specs.Past.{now, content, keys}
use Rattle.life.specs.Life.{Life, birth, status, is_gone}
use Rattle.life.specs.Lives.{births, life, birth_at, befell}
use Rattle.life.specs.Notices.{notices_at}
use Rattle.life.proofs.Boxes.{boxes_without, types-stay, content-other, forget-after}
use Rattle.life.proofs.Rows.{row_of, sub_of, want_of, usage_of, live_row, rows_to, gone, left_of}
use Rattle.life.proofs.NextLives.{no_life, Ranges}
use Rattle.life.proofs.AllRows.{Rules, left-one, apart, born_small}

abbrev pub keys_of : List Kept → List Key
keys_of [] = []
keys_of (a ∷ more) = a.key ∷ keys_of more

abbrev pub type_in : List Seen → Bytes → Option Bytes
type_in boxes name = option_map (λ (box : Seen). box.content_type) (first_box name boxes)

-- the transfers of the living
abbrev pub Transfers : Start → List Event → List Seen → Type 0
Transfers start past boxes = (s : ℕ) (l : Life) → life start past s ≡ Some l → is_gone start.place.limits l ≡ false → is_refer (birth l) ≡ true → content_in boxes refer_package (tag_of start.place s) ≡ Some (OfStatus (status l).0 (status l).1)

-- the packages after these events
pub record Holdings (start : Start) (past : List Event) (boxes : List Seen) : Type 0 where
  pub types : (name : Bytes) → type_in boxes name ≡ type_in start.boxes name
  pub contents : (name resource : Bytes) → bytes_eq name refer_package ≡ false → content_in boxes name resource ≡ content start past name resource
  pub transfers : Transfers start past boxes
  pub not_begun : (s : ℕ) → births start past < s → s < 2 ^ 64 → content_in boxes refer_package (tag_of start.place s) ≡ None

-- the book after these events
pub record Holds (start : Start) (past : List Event) (b : Book) : Type 0 where
  pub clock_is : b.clock ≡ now past
  pub next_is : b.next ≡ births start past + 1
  pub rows_are : b.rows ≡ rows_to start (life start past) (births start past)
  pub boxes_hold : Holdings start past b.boxes
  pub ring_is : keys_of b.ring ≡ take start.place.limits.kept (keys start.place.limits past)

abbrev pub Stepped : Type 0
Stepped = SteppedBy finite_maps

-- one event: the book goes on, and each subscription gets its notices
pub record Goes (start : Start) (past : List Event) (e : Event) (stepped : Stepped) : Type 0 where
  pub book : Holds start (e ∷ past) stepped.book
  pub notices : (k : ℕ) → k < 2 ^ 64 → notifications (tag_of start.place k) stepped.outs ≡ notices_at start (e ∷ past) (befell start past e k)

-- ---- the transfers of the rows that go are forgotten, and no others

abbrev pub without_row : (Row → Turned) → Row → List Seen → List Seen
without_row rule row boxes = if is_of_refer row.sub.want.event && is_none (rule row).row then boxes_without boxes row.sub.usage.local_tag else boxes

unfoldable pub forgot : (Row → Turned) → List Row → List Seen → List Seen
forgot rule [] boxes = boxes
forgot rule (row ∷ rows) boxes = forgot rule rows (without_row rule row boxes)

forgetting-append : (xs ys : List Bytes) (boxes : List Seen) → forgetting (xs ++ ys) boxes ≡ forgetting ys (forgetting xs boxes)
unfolding forgetting
forgetting-append [] ys boxes = refl
forgetting-append (x ∷ xs) ys boxes = forgetting-append xs ys (boxes_without boxes x)

forgetting-one : (rule : Row → Turned) (row : Row) (boxes : List Seen) → forgetting (gone_at rule row) boxes ≡ without_row rule row boxes
unfolding gone_at
forgetting-one rule row boxes = by_test (is_of_refer row.sub.want.event && is_none (rule row).row)
  where
    by_test : (d : Bool) → forgetting (if d then row.sub.usage.local_tag ∷ [] else []) boxes ≡ (if d then boxes_without boxes row.sub.usage.local_tag else boxes)
    by_test true = unfold forgetting in refl
    by_test false = unfold forgetting in refl

-- the same, row by row
pub forgot-is : (rule : Row → Turned) (rows : List Row) (boxes : List Seen) → forgetting (gone rule rows) boxes ≡ forgot rule rows boxes
unfolding sweep forgot
forgot-is rule [] boxes = unfold forgetting in refl
forgot-is rule (row ∷ rows) boxes =
    forgetting-append (gone_at rule row) (gone rule rows) boxes ∙ (ap (forgetting (gone rule rows)) (forgetting-one rule row boxes) ∙ forgot-is rule rows (without_row rule row boxes))

forgetting-types : (rule : Row → Turned) (rows : List Row) (boxes : List Seen) (name : Bytes) → type_in (forgot rule rows boxes) name ≡ type_in boxes name
unfolding forgot
forgetting-types rule [] boxes name = refl
forgetting-types rule (row ∷ rows) boxes name =
    forgetting-types rule rows (without_row rule row boxes) name
    ∙ if_is (λ (bs : List Seen). type_in bs name ≡ type_in boxes name) (is_of_refer row.sub.want.event && is_none (rule row).row) (boxes_without boxes row.sub.usage.local_tag) boxes (λ h. types-stay boxes (Forget row.sub.usage.local_tag) name) (λ h. refl)

forgetting-other : (rule : Row → Turned) (rows : List Row) (boxes : List Seen) (name resource : Bytes) → bytes_eq refer_package name ≡ false → content_in (forgot rule rows boxes) name resource ≡ content_in boxes name resource
unfolding forgot
forgetting-other rule [] boxes name resource f = refl
forgetting-other rule (row ∷ rows) boxes name resource f =
    forgetting-other rule rows (without_row rule row boxes) name resource f
    ∙ if_is (λ (bs : List Seen). content_in bs name resource ≡ content_in boxes name resource) (is_of_refer row.sub.want.event && is_none (rule row).row) (boxes_without boxes row.sub.usage.local_tag) boxes (λ h. content-other boxes (Forget row.sub.usage.local_tag) name resource f) (λ h. refl)

pub forget-none : (boxes : List Seen) (tag resource : Bytes) → content_in boxes refer_package resource ≡ None → content_in (boxes_without boxes tag) refer_package resource ≡ None
forget-none boxes tag resource none = forget-after boxes tag resource ∙ if_is (λ (o : Option Content). o ≡ None) (bytes_eq resource tag) None (content_in boxes refer_package resource) (λ h. refl) (λ h. none)

pub forget-elsewhere : (boxes : List Seen) (tag resource : Bytes) → bytes_eq resource tag ≡ false → content_in (boxes_without boxes tag) refer_package resource ≡ content_in boxes refer_package resource
forget-elsewhere boxes tag resource f = forget-after boxes tag resource ∙ rw f refl

forgetting-none : (rule : Row → Turned) (rows : List Row) (boxes : List Seen) (resource : Bytes) → content_in boxes refer_package resource ≡ None → content_in (forgot rule rows boxes) refer_package resource ≡ None
unfolding forgot
forgetting-none rule [] boxes resource none = none
forgetting-none rule (row ∷ rows) boxes resource none =
    forgetting-none rule rows (without_row rule row boxes) resource
    (if_is (λ (bs : List Seen). content_in bs refer_package resource ≡ None) (is_of_refer row.sub.want.event && is_none (rule row).row) (boxes_without boxes row.sub.usage.local_tag) boxes (λ h. forget-none boxes row.sub.usage.local_tag resource none) (λ h. none))

forgot-append : (rule : Row → Turned) (xs ys : List Row) (boxes : List Seen) → forgot rule (xs ++ ys) boxes ≡ forgot rule ys (forgot rule xs boxes)
unfolding forgot
forgot-append rule [] ys boxes = refl
forgot-append rule (x ∷ xs) ys boxes = forgot-append rule xs ys (without_row rule x boxes)

forget-one : (start : Start) (rule : Row → Turned) (k s : ℕ) (o : Option Life) (boxes : List Seen)
    → ((s ≡ k → ⊥) → bytes_eq (tag_of start.place s) (tag_of start.place k) ≡ false) → (s ≡ k → is_some (left_of rule (live_row start s o)) ≡ true)
    → content_in (forgot rule (option_to_list (live_row start s o)) boxes) refer_package (tag_of start.place k) ≡ content_in boxes refer_package (tag_of start.place k)
unfolding forgot live_row left_of
forget-one start rule k s None boxes differ there = refl
forget-one start rule k s (Some l) boxes differ there = by_gone (is_gone start.place.limits l) there
  where
    by_tests : (row : Row) (c d : Bool) → is_none (rule row).row ≡ d → (s ≡ k → is_some (rule row).row ≡ true) → content_in (if c && d then boxes_without boxes (tag_of start.place s) else boxes) refer_package (tag_of start.place k) ≡ content_in boxes refer_package (tag_of start.place k)
    by_tests row false d f there = refl
    by_tests row true false f there = refl
    by_tests row true true f there = forget-elsewhere boxes (tag_of start.place s) (tag_of start.place k) (bytes_other_way (tag_of start.place s) (tag_of start.place k) tags_differ)
      where
        clash : (o : Option Row) → is_some o ≡ true → is_none o ≡ true → ⊥
        clash None a b = absurd (cc)
        clash (Some r) a b = absurd (cc)

        tags_differ : bytes_eq (tag_of start.place s) (tag_of start.place k) ≡ false
        tags_differ = differ (λ at. clash (rule row).row (there at) f)

    by_gone : (d : Bool) → (s ≡ k → is_some (left_of rule (if d then None else Some (row_of start s l))) ≡ true) → content_in (forgot rule (option_to_list (if d then None else Some (row_of start s l))) boxes) refer_package (tag_of start.place k) ≡ content_in boxes refer_package (tag_of start.place k)
    by_gone true there = refl
    by_gone false there = unfold row_of sub_of want_of usage_of in by_tests (row_of start s l) (is_of_refer (event_of (birth l))) (is_none (rule (row_of start s l)).row) refl there

forget-keeps : (start : Start) (rule : Row → Turned) (life : ℕ → Option Life) (k n : ℕ) (boxes : List Seen) → ((s : ℕ) → s ≤ n → (s ≡ k → ⊥) → bytes_eq (tag_of start.place s) (tag_of start.place k) ≡ false) → is_some (left_of rule (live_row start k (life k))) ≡ true
    → content_in (forgot rule (rows_to start life n) boxes) refer_package (tag_of start.place k) ≡ content_in boxes refer_package (tag_of start.place k)
unfolding rows_to forgot
forget-keeps start rule life k zero boxes differ there = refl
forget-keeps start rule life k (suc n) boxes differ there =
    rw (forgot-append rule (rows_to start life n) (option_to_list (live_row start (suc n) (life (suc n)))) boxes)
    (forget-one start rule k (suc n) (life (suc n)) (forgot rule (rows_to start life n) boxes) (differ (suc n) (omega arith)) (λ e. subst (λ (x : ℕ). is_some (left_of rule (live_row start x (life x))) ≡ true) (sym e) there)
    ∙ forget-keeps start rule life k n boxes (λ s le. differ s (omega arith)) there)

live-there : (start : Start) (s : ℕ) (l : Life) → is_gone start.place.limits l ≡ false → is_some (live_row start s (Some l)) ≡ true
unfolding live_row
live-there start s l alive = rw alive refl

pub life_small : (start : Start) (past : List Event) (s : ℕ) (l : Life) → Ranges start.place.limits → life start past s ≡ Some l → s < 2 ^ 64
life_small start past s l ok is = by_place (s_within s (births start past))
  where
    s_within : (s n : ℕ) → (n < s) ⊎ (s ≤ n)
    s_within s n = grind arith

    by_place : (births start past < s) ⊎ (s ≤ births start past) → s < 2 ^ 64
    by_place (inl out) = absurd (let f : Some l ≡ None = sym is ∙ no_life start past s (inr out) in cc)
    by_place (inr le) = born_small start past s ok (omega arith)

-- after all rows by one rule
pub forget_holdings : (start : Start) (past : List Event) (e : Event) (rule : Row → Turned) (boxes : List Seen) → Ranges start.place.limits → birth_at start past e ≡ None → Rules start past e rule → Holdings start (e ∷ past) boxes → Holdings start (e ∷ past) (forgot rule (rows_to start (life start past) (births start past)) boxes)
forget_holdings start past e rule boxes ok none h hold = record {
  types = λ name. forgetting-types rule (rows_to start (life start past) (births start past)) boxes name ∙ hold.types name;
  contents = λ name resource f. forgetting-other rule (rows_to start (life start past) (births start past)) boxes name resource (bytes_other_way name refer_package f) ∙ hold.contents name resource f;
  transfers = λ s l is alive refers.
      forget-keeps start rule (life start past) s (births start past) boxes
      (λ t le differ. apart start t s (born_small start past t ok (omega arith)) (life_small start (e ∷ past) s l ok is) differ)
      (rw (left-one start past e rule none h s, is) (live-there start s l alive)) ∙ hold.transfers s l is alive refers;
  not_begun = λ s later small. forgetting-none rule (rows_to start (life start past) (births start past)) boxes (tag_of start.place s) (hold.not_begun s later small);
}
