-- The mailboxes that lines made, as one more of them is told of.
use Rattle.std.proofs.Common.{◌≡◌, ◌<◌, ◌≤◌, ◌+◌, Bool, true, false, cond, ◌||◌, bytes_eq, count_by, arith, subst, IsTrue, Result, Ok, Err, OnOk, OnErr, ℕ, zero, suc, List, [], ◌∷◌, ◌++◌, map, length, take, get_or, filter_map, flat_map, option_to_list, Option, None, Some, refl, sym, ap, ◌∙◌, add-one, append_assoc}
use Rattle.std.specs.Prelude.{slice_get}
use Rattle.std.specs.Option.{option_map_or}
use Rattle.std.specs.List.{cons_option}
use Rattle.std.specs.List.{list_all}
use Rattle.std.proofs.lemmas.List.{append-nil, take_more, map-append}
use Rattle.std.proofs.lemmas.List.Folds.{list_all-append}
use Rattle.std.proofs.lemmas.List.Sums.{sum_by-append}
use Rattle.std.proofs.lemmas.Slice.Eq.{bytes_eq-Decides}
use Rattle.std.proofs.lemmas.Bool.{ne_eqb, eq-eqb}
use Rattle.std.proofs.lemmas.List.Elements.{filter_map-append}
use Rattle.package.specs.declared.counts.Class.{Class}
use Rattle.package.specs.Values.{MailChange}
use Rattle.package.specs.Texts.{is_word}
use Rattle.package.specs.Changes.{with_counts, unset}
use Rattle.notifier_model.specs.declared.event.Event.{Event}
use Rattle.notifier_model.specs.declared.event.Event.TheVariants.{Request, Reply, Mail, Progress, Tick, Shut}
use Rattle.control_lines.specs.Told.{Row, has, with_name, told}
use Rattle.service.specs.Told.{worker_for}
use Rattle.service.specs.Made.{names, AreNames, told_event, last_changes, own_changes}

one_option : (o : Option MailChange) → cons_option o [] ≡ option_to_list o
one_option None = refl
one_option (Some m) = refl

-- one class more
pub class_more : (f : Class → Option MailChange) (classes : List Class) (i : ℕ) (d : Class) (a b c : List MailChange)
    → i < length classes → b ≡ a ++ filter_map f (take i classes) → c ≡ b ++ option_to_list (f (get_or classes i d))
    → c ≡ a ++ filter_map f (take (i + 1) classes)
class_more f classes i d a b c lt was more =
    let class : Class = get_or classes i d in
    let split : filter_map f (take (i + 1) classes) ≡ filter_map f (take i classes) ++ option_to_list (f class) =
    ap (filter_map f) (take_more classes i d lt) ∙ filter_map-append f (take i classes) (class ∷ [])
    ∙ ap (λ l. filter_map f (take i classes) ++ l) (one_option (f class)) in
    more ∙ ap (λ l. l ++ option_to_list (f class)) was ∙ append_assoc a (filter_map f (take i classes)) (option_to_list (f class)) ∙ ap (λ l. a ++ l) (sym split)

-- ---- a row

pub none_added : (f : Row → List MailChange) (o : Option Row) (a : List MailChange) → o ≡ None → a ≡ a ++ option_map_or f o []
none_added f o a is = sym (append-nil a) ∙ ap (λ (r : Option Row). a ++ option_map_or f r []) (sym is)

pub other_added : (workers worker : ℕ) (row : Row) (o : Option Row) (a : List MailChange) → o ≡ Some row → (worker_for workers row.0 ≡ worker → ⊥)
    → a ≡ a ++ option_map_or (own_changes workers worker) o []
other_added workers worker row o a is other =
    sym (append-nil a) ∙ ap (λ l. a ++ l) (sym (ap (λ (b : Bool). cond b (last_changes row) []) (ne_eqb (worker_for workers row.0) worker other)))
    ∙ ap (λ (r : Option Row). a ++ option_map_or (own_changes workers worker) r []) (sym is)

pub own_added : (workers worker : ℕ) (row : Row) (o : Option Row) (a b : List MailChange) → o ≡ Some row → worker_for workers row.0 ≡ worker
    → b ≡ a ++ last_changes row → b ≡ a ++ option_map_or (own_changes workers worker) o []
own_added workers worker row o a b is own more =
    more ∙ ap (λ l. a ++ l) (sym (ap (λ (t : Bool). cond t (last_changes row) []) (eq-eqb (worker_for workers row.0) worker own)))
    ∙ ap (λ (r : Option Row). a ++ option_map_or (own_changes workers worker) r []) (sym is)

-- one row more
row_more : (f : Row → List MailChange) (rows : List Row) (n : ℕ)
    → flat_map f (take (suc n) rows) ≡ flat_map f (take n rows) ++ option_map_or f (slice_get rows n) []
row_more f [] zero = refl
row_more f [] (suc n) = refl
row_more f (row ∷ rows) zero = append-nil (f row)
row_more f (row ∷ rows) (suc n) =
    ap (λ l. f row ++ l) (row_more f rows n) ∙ sym (append_assoc (f row) (flat_map f (take n rows)) (option_map_or f (slice_get rows n) []))

pub changes_more : (f : Row → List MailChange) (rows : List Row) (n : ℕ) (a b : List MailChange)
    → a ≡ flat_map f (take n rows) → b ≡ a ++ option_map_or f (slice_get rows n) [] → b ≡ flat_map f (take (n + 1) rows)
changes_more f rows n a b was more =
    more ∙ ap (λ l. l ++ option_map_or f (slice_get rows n) []) was ∙ sym (row_more f rows n) ∙ ap (λ m. flat_map f (take m rows)) (sym (add-one n))

-- one name more
name_more : (rows : List Row) (n : ℕ) (row : Row) → slice_get rows n ≡ Some row → names (take (suc n) rows) ≡ names (take n rows) ++ row.0 ∷ []
name_more [] zero row is = absurd cc
name_more [] (suc n) row is = absurd cc
name_more (first ∷ rows) zero row is = let same : first ≡ row = cc in ap (λ (r : Row). r.0 ∷ []) same
name_more (first ∷ rows) (suc n) row is = ap (λ l. first.0 ∷ l) (name_more rows n row is)

pub names_more : (rows : List Row) (n : ℕ) (row : Row) (a b : List (List ℕ)) → slice_get rows n ≡ Some row
    → a ≡ names (take n rows) → b ≡ a ++ row.0 ∷ [] → b ≡ names (take (n + 1) rows)
names_more rows n row a b is was more =
    more ∙ ap (λ l. l ++ row.0 ∷ []) was ∙ sym (name_more rows n row is) ∙ ap (λ m. names (take m rows)) (sym (add-one n))

-- none is left
no_row : (rows : List Row) (n : ℕ) → slice_get rows n ≡ None → take n rows ≡ rows
no_row [] zero is = refl
no_row [] (suc n) is = refl
no_row (row ∷ rows) zero is = absurd cc
no_row (row ∷ rows) (suc n) is = ap (λ (l : List Row). row ∷ l) (no_row rows n is)

pub names_all : (rows : List Row) (n : ℕ) (a : List (List ℕ)) → slice_get rows n ≡ None → a ≡ names (take n rows) → a ≡ names rows
names_all rows n a is was = was ∙ ap names (no_row rows n is)

-- ---- their names

none_there : (name : List ℕ) (rows : List Row) → has name rows ≡ false → count_by (bytes_eq name) (names rows) ≡ 0
none_there name [] is = refl
none_there name (row ∷ rows) is =
    sum_by-append (λ (m : List ℕ). cond (bytes_eq name m) 1 0) (row.0 ∷ []) (names rows) ∙ step (bytes_eq name row.0) (none_there name rows) is where
      step : (b : Bool) → (has name rows ≡ false → count_by (bytes_eq name) (names rows) ≡ 0) → (b || has name rows) ≡ false
          → (0 + cond b 1 0) + count_by (bytes_eq name) (names rows) ≡ 0
      step true rest e = absurd cc
      step false rest e = let none : count_by (bytes_eq name) (names rows) ≡ 0 = rest e in omega (arith, none)

one_there : (n name : List ℕ) (rows : List Row) → has name rows ≡ false → count_by (bytes_eq n) (names rows) ≤ 1
    → count_by (bytes_eq n) (names rows) + (0 + cond (bytes_eq n name) 1 0) ≤ 1
one_there n name rows missing once = step (bytes_eq n name) refl where
  step : (b : Bool) → bytes_eq n name ≡ b → count_by (bytes_eq n) (names rows) + (0 + cond b 1 0) ≤ 1
  step false e = omega (arith, once)
  step true e =
      let same : n ≡ name = (bytes_eq-Decides n name).0 e in
      let none : count_by (bytes_eq n) (names rows) ≡ 0 = ap (λ (m : List ℕ). count_by (bytes_eq m) (names rows)) same ∙ none_there name rows missing in
      omega (arith, none)

named_more : (name : List ℕ) (rows new : List Row) → IsTrue (is_word name) → AreNames (names rows) → new ≡ with_name name rows → AreNames (names new)
named_more name rows new word are is = subst (λ (l : List Row). AreNames (names l)) (sym is) (step (has name rows) refl) where
  step : (b : Bool) → has name rows ≡ b → AreNames (names (cond b rows (rows ++ (name, unset) ∷ [])))
  step true e = are
  step false e =
      let split : names (rows ++ (name, unset) ∷ []) ≡ names rows ++ name ∷ [] = map-append (λ (row : Row). row.0) rows ((name, unset) ∷ []) in
      subst AreNames (sym split) (record {
        words = list_all-append is_word (names rows) (name ∷ []) ∙ rw (are.words, word) refl;
        once = λ n. rw (sum_by-append (λ (m : List ℕ). cond (bytes_eq n m) 1 0) (names rows) (name ∷ [])) (one_there n name rows e (are.once n));
      })

-- one is added, or there is no memory for it
pub named_added : {A E : Type 0} (added : Result A E) (name : List ℕ) (rows new : List Row) → IsTrue (is_word name) → AreNames (names rows)
    → OnOk added (new ≡ with_name name rows) → OnErr added (new ≡ rows) → AreNames (names new)
named_added (Ok a) name rows new word are is same = named_more name rows new word are is
named_added (Err e) name rows new word are is same = subst (λ (l : List Row). AreNames (names l)) (sym same) are

told_names : (m : MailChange) (rows : List Row) → names (told m rows) ≡ names rows
told_names m [] = refl
told_names m (row ∷ rows) = step (bytes_eq m.mailbox row.0) (told_names m rows) where
  step : (b : Bool) → names (told m rows) ≡ names rows
      → names (cond b ((row.0, with_counts m.class m.counts row.1) ∷ rows) (row ∷ told m rows)) ≡ row.0 ∷ names rows
  step true rest = refl
  step false rest = ap (λ (l : List (List ℕ)). row.0 ∷ l) rest

event_names : (event : Event) (rows : List Row) → names (told_event event rows) ≡ names rows
event_names (Request from request) rows = refl
event_names (Reply response) rows = refl
event_names (Mail m) rows = told_names m rows
event_names (Progress p) rows = refl
event_names (Tick second) rows = refl
event_names Shut rows = refl

pub named_still : (event : Event) (rows new : List Row) → AreNames (names rows) → new ≡ told_event event rows → AreNames (names new)
named_still event rows new are is =
    subst (λ (l : List Row). AreNames (names l)) (sym is) (subst AreNames (sym (event_names event rows)) are)

pub named_mail : (m : MailChange) (rows new : List Row) → AreNames (names rows) → new ≡ told m rows → AreNames (names new)
named_mail m rows new are is = named_still (Mail m) rows new are is

pub named_none : (rows : List Row) → rows ≡ [] → AreNames (names rows)
named_none rows is = subst (λ (l : List Row). AreNames (names l)) (sym is) (record { words = refl; once = λ n. omega arith })
