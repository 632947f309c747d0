-- What the pages of a dump tell together.
use Rattle.std.proofs.Common.{◌≡◌, ℕ, zero, suc, ◌+◌, ◌≤◌, List, [], ◌∷◌, ◌++◌, Bool, true, false, cond, ◌||◌, not, Some, None, refl, sym, ap, ◌∙◌, subst, length, drop, arith, append_assoc, length-append}
use Rattle.std.specs.Prelude.{nat_lt}
use Rattle.std.specs.Str.{bytes_eq}
use Rattle.std.specs.List.{flat_map, fold, position_or_len}
use Rattle.std.proofs.lemmas.Bool.Decides.{nat_tests}
use Rattle.std.proofs.lemmas.Grind.{flat_map-append}
use Rattle.std.proofs.lemmas.List.{append-nil}
use Rattle.std.proofs.lemmas.List.Folds.{list_any-append}
use Rattle.std.proofs.lemmas.Slice.Eq.{bytes_eq-Decides}
use Rattle.package.specs.Values.{MailChange}
use Rattle.package.specs.Changes.{with_counts, unset}
use Rattle.control_lines.specs.Told.{Row, has, place, told, with_name, untold}
use Rattle.control_lines.specs.Pages.{told_lines, fits, more_line, page_with, dump_text}
use Rattle.control_lines.specs.Dumped.{AreDistinct, lines, Page, page_text, AreGot, EachIsToldOnce, StayDistinct}

-- ---- one page

abbrev row_lines : Row → List ℕ
row_lines row = told_lines row.0 row.1

-- the line behind those of this mailbox, where these mailboxes are left
abbrev more_left : List ℕ → List Row → List ℕ
more_left name [] = []
more_left name (row ∷ rows) = more_line name

-- the mailboxes whose lines a page has, from this one on: all but the last, that one, and those that are left
record Split (page : List ℕ) (row : Row) (rest : List Row) : Type 0 where
  front : List Row
  final : Row
  left : List Row
  all : row ∷ rest ≡ front ++ final ∷ left
  text : page_with (page ++ row_lines row) row.0 rest ≡ page ++ (lines front ++ (row_lines final ++ more_left final.0 left))

split : (page : List ℕ) (row : Row) (rest : List Row) → Split page row rest
split page row [] = record { front = []; final = row; left = []; all = refl; text = ap (λ (l : List ℕ). page ++ l) (sym (append-nil (row_lines row))) }
split page row (x ∷ rest) = by (fits (page ++ row_lines row) (row_lines x)) refl (split (page ++ row_lines row) x rest)
  where
    by : (b : Bool) → fits (page ++ row_lines row) (row_lines x) ≡ b → Split (page ++ row_lines row) x rest → Split page row (x ∷ rest)
    by true e s = record {
      front = row ∷ s.front;
      final = s.final;
      left = s.left;
      all = ap (λ (rows : List Row). row ∷ rows) s.all;
      text =
          ap (λ b. cond b (page_with ((page ++ row_lines row) ++ row_lines x) x.0 rest) ((page ++ row_lines row) ++ more_line row.0)) e
          ∙ s.text
          ∙ append_assoc page (row_lines row) (lines s.front ++ (row_lines s.final ++ more_left s.final.0 s.left))
          ∙ ap (λ (l : List ℕ). page ++ l) (sym (append_assoc (row_lines row) (lines s.front) (row_lines s.final ++ more_left s.final.0 s.left)));
    }
    by false e s = record {
      front = [];
      final = row;
      left = x ∷ rest;
      all = refl;
      text =
          ap (λ b. cond b (page_with ((page ++ row_lines row) ++ row_lines x) x.0 rest) ((page ++ row_lines row) ++ more_line row.0)) e
          ∙ append_assoc page (row_lines row) (more_line row.0);
    }

-- ---- where the next page begins

dropped : (before rest : List Row) → drop (length before) (before ++ rest) ≡ rest
dropped [] rest = refl
dropped (row ∷ before) rest = dropped before rest

or_left : (a b : Bool) → (a || b) ≡ false → a ≡ false
or_left true b e = absurd cc
or_left false b e = refl

or_right : (a b : Bool) → (a || b) ≡ false → b ≡ false
or_right true b e = absurd cc
or_right false b e = e

differ : (a b : List ℕ) → bytes_eq a b ≡ false → bytes_eq b a ≡ false
differ a b e = by (bytes_eq b a) refl
  where
    by : (c : Bool) → bytes_eq b a ≡ c → bytes_eq b a ≡ false
    by false k = k
    by true k = let yes : bytes_eq a b ≡ true = (bytes_eq-Decides a b).1 (sym ((bytes_eq-Decides b a).0 k)) in absurd cc

not_there : (name : List ℕ) (before : List Row) (row : Row) (rest : List Row) → has name (before ++ row ∷ rest) ≡ false → bytes_eq name row.0 ≡ false
not_there name [] row rest e = or_left (bytes_eq name row.0) (has name rest) e
not_there name (x ∷ before) row rest e = not_there name before row rest (or_right (bytes_eq name x.0) (has name (before ++ row ∷ rest)) e)

stands : (before : List Row) (row : Row) (rest : List Row) → AreDistinct (before ++ row ∷ rest) → position_or_len (λ (r : Row). bytes_eq row.0 r.0) (before ++ row ∷ rest) ≡ length before
stands [] row rest d = ap (λ b. cond (not b) (1 + position_or_len (λ (r : Row). bytes_eq row.0 r.0) rest) 0) ((bytes_eq-Decides row.0 row.0).1 refl)
stands (x ∷ before) row rest d =
    let other = differ x.0 row.0 (not_there x.0 before row rest d.0) in
    let tail = stands before row rest d.1 in
    ap (λ b. cond (not b) (1 + position_or_len (λ (r : Row). bytes_eq row.0 r.0) (before ++ row ∷ rest)) 0) other ∙ ap (λ (n : ℕ). 1 + n) tail ∙ one (length before)
  where
    one : (n : ℕ) → 1 + n ≡ suc n
    one n = omega arith

placed : (before : List Row) (row : Row) (rest : List Row) → AreDistinct (before ++ row ∷ rest) → place row.0 (before ++ row ∷ rest) ≡ Some (length before)
placed before row rest d = by (position_or_len (λ (r : Row). bytes_eq row.0 r.0) (before ++ row ∷ rest)) (stands before row rest d)
  where
    by : (n : ℕ) → n ≡ length before → cond (nat_lt n (length (before ++ row ∷ rest))) (Some n) None ≡ Some (length before)
    by n e =
        let long = length-append before (row ∷ rest) in
        let less : nat_lt n (length (before ++ row ∷ rest)) ≡ true = grind (arith, nat_tests) in
        ap (λ b. cond b (Some n) None) less ∙ ap (λ (k : ℕ). Some k) e

-- ---- page after page

abbrev mails : List Page → List ℕ
mails pages = flat_map (λ (page : Page). page.mail) pages

record Walk (rows : List Row) (from : ℕ) (rest : List Row) : Type 0 where
  pages : List Page
  got : AreGot rows from pages
  whole : mails pages ≡ lines rest

got_more : (rows : List Row) (from n : ℕ) (page : Page) (name : List ℕ) (pages : List Page) → dump_text rows from ≡ page_text page → page.more ≡ Some name → place name rows ≡ Some n
    → AreGot rows (n + 1) pages → AreGot rows from (page ∷ pages)
got_more rows from n page name [] text more is got = absurd got
got_more rows from n page name (next ∷ pages) text more is got = (text, name, more, n, is, got)

-- from behind these mailboxes on
abbrev Walks : ℕ → List Row → Type 0
Walks fuel rows = (before rest : List Row) → rows ≡ before ++ rest → length rest ≤ fuel → Walk rows (length before) rest

module _ (fuel : ℕ) (rows : List Row) (d : AreDistinct rows) (walks : Walks fuel rows) (before : List Row) (row : Row) (rest : List Row) (e : rows ≡ before ++ row ∷ rest) (l : length (row ∷ rest) ≤ suc fuel) (s : Split [] row rest) where
  abbrev mail : List ℕ
  mail = lines s.front ++ row_lines s.final

  text : dump_text rows (length before) ≡ lines s.front ++ (row_lines s.final ++ more_left s.final.0 s.left)
  text = ap (λ (r : List Row). page_with [] [] r) (ap (drop (length before)) e ∙ dropped before (row ∷ rest)) ∙ s.text

  whole : (left : List Row) → s.left ≡ left → lines (row ∷ rest) ≡ mail ++ lines left
  whole left is =
      ap lines s.all ∙ flat_map-append (λ (r : Row). told_lines r.0 r.1) s.front (s.final ∷ s.left) ∙ sym (append_assoc (lines s.front) (row_lines s.final) (lines s.left))
      ∙ ap (λ (r : List Row). mail ++ lines r) is

  walk_on : (left : List Row) → s.left ≡ left → Walk rows (length before) (row ∷ rest)
  walk_on [] none = record {
    pages = record { mail = mail; more = None } ∷ [];
    got =
        (text ∙ ap (λ (r : List Row). lines s.front ++ (row_lines s.final ++ more_left s.final.0 r)) none ∙ sym (append_assoc (lines s.front) (row_lines s.final) []), refl);
    whole = sym (whole [] none);
  }
  walk_on (y ∷ ys) some = record {
    pages = record { mail = mail; more = Some s.final.0 } ∷ next.pages;
    got = got_more rows (length before) (length (before ++ s.front)) (record { mail = mail; more = Some s.final.0 }) s.final.0 next.pages
        (text ∙ ap (λ (r : List Row). lines s.front ++ (row_lines s.final ++ more_left s.final.0 r)) some ∙ sym (append_assoc (lines s.front) (row_lines s.final) (more_line s.final.0)))
        refl
        (ap (place s.final.0) middle ∙ placed (before ++ s.front) s.final (y ∷ ys) (subst AreDistinct middle d))
        (subst (λ (n : ℕ). AreGot rows n next.pages) (length-append (before ++ s.front) (s.final ∷ [])) next.got);
    whole = ap (λ (l : List ℕ). mail ++ l) next.whole ∙ sym (whole (y ∷ ys) some);
  }
    where
      middle : rows ≡ (before ++ s.front) ++ s.final ∷ (y ∷ ys)
      middle =
          e ∙ ap (λ (r : List Row). before ++ r) (s.all ∙ ap (λ (r : List Row). s.front ++ s.final ∷ r) some)
          ∙ sym (append_assoc before s.front (s.final ∷ (y ∷ ys)))

      less : length (y ∷ ys) ≤ fuel
      less =
          let all : length (row ∷ rest) ≡ length s.front + length (s.final ∷ s.left) = ap length s.all ∙ length-append s.front (s.final ∷ s.left) in
          let same = ap length some in
          omega (arith, l, all, same)

      next : Walk rows (length ((before ++ s.front) ++ s.final ∷ [])) (y ∷ ys)
      next = walks ((before ++ s.front) ++ s.final ∷ []) (y ∷ ys) (middle ∙ sym (append_assoc (before ++ s.front) (s.final ∷ []) (y ∷ ys))) less

walk : (fuel : ℕ) (rows : List Row) → AreDistinct rows → Walks fuel rows
walk fuel rows d before [] e l = record {
  pages = record { mail = []; more = None } ∷ [];
  got = (ap (λ (r : List Row). page_with [] [] r) (ap (drop (length before)) e ∙ dropped before []), refl);
  whole = refl;
}
walk zero rows d before (row ∷ rest) e l = absurd (omega (arith, l))
walk (suc fuel) rows d before (row ∷ rest) e l = (let s = split [] row rest in walk_on fuel rows d (walk fuel rows d) before row rest e l s s.left refl)

pub told_once : EachIsToldOnce
told_once rows d = (let w = walk (length rows) rows d [] rows refl (omega arith) in (w.pages, w.got, w.whole))

-- ---- no two mailboxes have one name

none_of : (a b : Bool) → a ≡ false → b ≡ false → (a || (b || false)) ≡ false
none_of true b p q = absurd cc
none_of false true p q = absurd cc
none_of false false p q = refl

push_distinct : (name : List ℕ) (rows : List Row) → AreDistinct rows → has name rows ≡ false → AreDistinct (rows ++ (name, unset) ∷ [])
push_distinct name [] d e = (refl, tt)
push_distinct name (row ∷ rows) d e = (
  list_any-append (λ (r : Row). bytes_eq row.0 r.0) rows ((name, unset) ∷ []) ∙ none_of (has row.0 rows) (bytes_eq row.0 name) d.0 (differ name row.0 (or_left (bytes_eq name row.0) (has name rows) e)),
  push_distinct name rows d.1 (or_right (bytes_eq name row.0) (has name rows) e),
)

added_distinct : (name : List ℕ) (rows : List Row) → AreDistinct rows → AreDistinct (with_name name rows)
added_distinct name rows d = by (has name rows) refl
  where
    by : (b : Bool) → has name rows ≡ b → AreDistinct (cond b rows (rows ++ (name, unset) ∷ []))
    by true e = d
    by false e = push_distinct name rows d e

begun_distinct : (names : List (List ℕ)) (rows : List Row) → AreDistinct rows → AreDistinct (fold (λ (r : List Row) name. with_name name r) rows names)
begun_distinct [] rows d = d
begun_distinct (name ∷ names) rows d = begun_distinct names (with_name name rows) (added_distinct name rows d)

has_told : (name : List ℕ) (m : MailChange) (rows : List Row) → has name (told m rows) ≡ has name rows
has_told name m [] = refl
has_told name m (row ∷ rows) = by (bytes_eq m.mailbox row.0) (has_told name m rows)
  where
    by : (b : Bool) → has name (told m rows) ≡ has name rows → has name (cond b ((row.0, with_counts m.class m.counts row.1) ∷ rows) (row ∷ told m rows)) ≡ has name (row ∷ rows)
    by true same = refl
    by false same = ap (λ b. bytes_eq name row.0 || b) same

told_distinct : (m : MailChange) (rows : List Row) → AreDistinct rows → AreDistinct (told m rows)
told_distinct m [] d = tt
told_distinct m (row ∷ rows) d = by (bytes_eq m.mailbox row.0) (told_distinct m rows d.1)
  where
    by : (b : Bool) → AreDistinct (told m rows) → AreDistinct (cond b ((row.0, with_counts m.class m.counts row.1) ∷ rows) (row ∷ told m rows))
    by true more = d
    by false more = (has_told row.0 m rows ∙ d.0, more)

pub stay_distinct : StayDistinct
stay_distinct = record { begun = λ names. begun_distinct names [] tt; added = added_distinct; changed = told_distinct }
