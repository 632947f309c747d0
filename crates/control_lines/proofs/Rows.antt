-- The rows that a map has.
use Rattle.std.proofs.Common.{◌≡◌, ℕ, suc, ◌+◌, List, [], ◌∷◌, ◌++◌, Bool, true, false, cond, ◌||◌, not, Option, Some, None, refl, sym, ap, ◌∙◌, subst, length, map, take, drop, string_bytes, String, slice_get, arith}
use Rattle.std.specs.Prelude.{nat_lt, is_some}
use Rattle.std.specs.Str.{bytes_eq}
use Rattle.std.proofs.lemmas.Slice.Eq.{bytes_eq-Decides}
use Rattle.std.specs.List.{list_any, prefix_len, position_or_len, position, AllByRecursion}
use Rattle.std.specs.Map.{lookup, set_value, keys_of}
use Rattle.indexmap.specs.IndexMap.{insert_entry}
use Rattle.std.specs.declared.alloc.Global.{Global}
use Rattle.std.proofs.lemmas.List.Folds.{list_any-append}
use Rattle.std.proofs.lemmas.List.Sums.{fold-append}
use Rattle.package.specs.declared.counts.MailCounts.{MailCounts}
use Rattle.package.specs.Values.{MailChange}
use Rattle.package.specs.Changes.{with_counts, unset}
use Rattle.control_lines.specs.Told.{Row, rows_in, has, place, told, with_row, with_name, is_held, untold, AreUntold}

-- ---- where a mailbox is

pub rows_len : (es : List (String Global × MailCounts)) → length (rows_in es) ≡ length es
rows_len [] = refl
rows_len (e ∷ es) = ap suc (rows_len es)

keys_len : (es : List (String Global × MailCounts)) → length (keys_of es) ≡ length es
keys_len [] = refl
keys_len (e ∷ es) = ap suc (keys_len es)

module _ (name : List ℕ) where
  abbrev named : String Global → Bool
  named k = bytes_eq name (string_bytes k)

  abbrev is_row : Row → Bool
  is_row row = bytes_eq name row.0

  before : (es : List (String Global × MailCounts)) → position_or_len named (keys_of es) ≡ position_or_len is_row (rows_in es)
  before [] = refl
  before (e ∷ es) = ap (λ (n : ℕ). cond (not (bytes_eq name (string_bytes e.0))) (1 + n) 0) (before es)

  pub place_rows : (es : List (String Global × MailCounts)) → position named (keys_of es) ≡ place name (rows_in es)
  place_rows es = at (position_or_len named (keys_of es)) (position_or_len is_row (rows_in es)) (before es) (length (keys_of es)) (length (rows_in es)) (keys_len es ∙ sym (rows_len es)) where
    at : (m n : ℕ) → m ≡ n → (k l : ℕ) → k ≡ l → cond (nat_lt m k) (Some m) None ≡ cond (nat_lt n l) (Some n) None
    at m n e k l f = cc

  -- ---- one of them changes

  pub set_row : (counts : MailCounts) (es : List (String Global × MailCounts)) → rows_in (set_value named es counts) ≡ with_row name counts (rows_in es)
  set_row counts [] = refl
  set_row counts (e ∷ es) = step (bytes_eq name (string_bytes e.0)) (set_row counts es) where
    step : (b : Bool) → rows_in (set_value named es counts) ≡ with_row name counts (rows_in es) → rows_in (cond b ((e.0, counts) ∷ es) (e ∷ set_value named es counts)) ≡ cond b ((string_bytes e.0, counts) ∷ rows_in es) ((string_bytes e.0, e.1) ∷ with_row name counts (rows_in es))
    step true rest = refl
    step false rest = ap (λ rows. (string_bytes e.0, e.1) ∷ rows) rest

module _ (m : MailChange) where
  abbrev of_change : String Global → Bool
  of_change k = bytes_eq m.mailbox (string_bytes k)

  pub told_none : (es : List (String Global × MailCounts)) → lookup of_change es ≡ None → told m (rows_in es) ≡ rows_in es
  told_none [] e = refl
  told_none (x ∷ es) e = step (bytes_eq m.mailbox (string_bytes x.0)) (told_none es) e where
    step : (b : Bool) → (lookup of_change es ≡ None → told m (rows_in es) ≡ rows_in es) → cond b (Some x.1) (lookup of_change es) ≡ None
        → cond b ((string_bytes x.0, with_counts m.class m.counts x.1) ∷ rows_in es) ((string_bytes x.0, x.1) ∷ told m (rows_in es)) ≡ (string_bytes x.0, x.1) ∷ rows_in es
    step true rest k = absurd cc
    step false rest k = ap (λ rows. (string_bytes x.0, x.1) ∷ rows) (rest k)

  pub told_some : (es : List (String Global × MailCounts)) (found : MailCounts) → lookup of_change es ≡ Some found
      → with_row m.mailbox (with_counts m.class m.counts found) (rows_in es) ≡ told m (rows_in es)
  told_some [] found e = absurd cc
  told_some (x ∷ es) found e = step (bytes_eq m.mailbox (string_bytes x.0)) (told_some es found) e where
    step : (b : Bool) → (lookup of_change es ≡ Some found → with_row m.mailbox (with_counts m.class m.counts found) (rows_in es) ≡ told m (rows_in es)) → cond b (Some x.1) (lookup of_change es) ≡ Some found
        → cond b ((string_bytes x.0, with_counts m.class m.counts found) ∷ rows_in es) ((string_bytes x.0, x.1) ∷ with_row m.mailbox (with_counts m.class m.counts found) (rows_in es))
        ≡ cond b ((string_bytes x.0, with_counts m.class m.counts x.1) ∷ rows_in es) ((string_bytes x.0, x.1) ∷ told m (rows_in es))
    step true rest k = let same : x.1 ≡ found = cc in ap (λ c. (string_bytes x.0, with_counts m.class m.counts c) ∷ rows_in es) (sym same)
    step false rest k = ap (λ rows. (string_bytes x.0, x.1) ∷ rows) (rest k)

-- ---- before anything was told

pub has_lookup : (name : List ℕ) (es : List (String Global × MailCounts)) → has name (rows_in es) ≡ is_some (lookup (λ k. bytes_eq name (string_bytes k)) es)
has_lookup name [] = refl
has_lookup name (e ∷ es) = step (bytes_eq name (string_bytes e.0)) (has_lookup name es) where
  step : (b : Bool) → has name (rows_in es) ≡ is_some (lookup (λ k. bytes_eq name (string_bytes k)) es) → (b || has name (rows_in es)) ≡ is_some (cond b (Some e.1) (lookup (λ k. bytes_eq name (string_bytes k)) es))
  step true rest = refl
  step false rest = rest

pub rows_append : (es : List (String Global × MailCounts)) (e : String Global × MailCounts) → rows_in (es ++ e ∷ []) ≡ rows_in es ++ (string_bytes e.0, e.1) ∷ []
rows_append [] e = refl
rows_append (x ∷ es) e = ap (λ rows. (string_bytes x.0, x.1) ∷ rows) (rows_append es e)

all_more : (rows : List Row) (row : Row) → AllByRecursion (λ (r : Row). r.1 ≡ unset) rows → row.1 ≡ unset → AllByRecursion (λ (r : Row). r.1 ≡ unset) (rows ++ row ∷ [])
all_more [] row all is = (is, tt)
all_more (r ∷ rows) row all is = (all.0, all_more rows row all.1 is)

or_true : (b : Bool) → (b || true) ≡ true
or_true true = refl
or_true false = refl

or_false : (b : Bool) → (b || false) ≡ b
or_false true = refl
or_false false = refl

-- ---- one more mailbox

insert_new : (name : String Global) (u : MailCounts) (es : List (String Global × MailCounts)) → lookup (λ k. bytes_eq (string_bytes name) (string_bytes k)) es ≡ None
    → insert_entry (λ a b. bytes_eq (string_bytes a) (string_bytes b)) es name u ≡ es ++ (name, u) ∷ []
insert_new name u [] e = refl
insert_new name u (x ∷ es) e = step (bytes_eq (string_bytes name) (string_bytes x.0)) (insert_new name u es) e where
  step : (b : Bool) → (lookup (λ k. bytes_eq (string_bytes name) (string_bytes k)) es ≡ None → insert_entry (λ a c. bytes_eq (string_bytes a) (string_bytes c)) es name u ≡ es ++ (name, u) ∷ [])
      → cond b (Some x.1) (lookup (λ k. bytes_eq (string_bytes name) (string_bytes k)) es) ≡ None
      → cond b ((x.0, u) ∷ es) (x ∷ insert_entry (λ a c. bytes_eq (string_bytes a) (string_bytes c)) es name u) ≡ x ∷ es ++ (name, u) ∷ []
  step true rest k = absurd cc
  step false rest k = ap (λ rows. x ∷ rows) (rest k)

is_missing : {X : Type 0} (o : Option X) → is_some o ≡ false → o ≡ None
is_missing None e = refl
is_missing (Some x) e = absurd cc

pub add_there : (name : List ℕ) (es : List (String Global × MailCounts)) → is_some (lookup (λ k. bytes_eq name (string_bytes k)) es) ≡ true
    → rows_in es ≡ with_name name (rows_in es)
add_there name es is = let h : has name (rows_in es) ≡ true = has_lookup name es ∙ is in sym (ap (λ b. cond b (rows_in es) (rows_in es ++ (name, unset) ∷ [])) h)

pub add_new : (name : String Global) (u : MailCounts) (es new : List (String Global × MailCounts)) → is_some (lookup (λ k. bytes_eq (string_bytes name) (string_bytes k)) es) ≡ false
    → u ≡ unset → new ≡ insert_entry (λ a b. bytes_eq (string_bytes a) (string_bytes b)) es name u → rows_in new ≡ with_name (string_bytes name) (rows_in es)
add_new name u es new is none made =
    let h : has (string_bytes name) (rows_in es) ≡ false = has_lookup (string_bytes name) es ∙ is in
    ap rows_in (made ∙ insert_new name u es (is_missing _ is)) ∙ rows_append es (name, u) ∙ ap (λ c. rows_in es ++ (string_bytes name, c) ∷ []) none
    ∙ sym (ap (λ b. cond b (rows_in es) (rows_in es ++ (string_bytes name, unset) ∷ [])) h)

-- a name that is there is there under each name that is equal to it
pub untold-push : (names : List (List ℕ)) (name : List ℕ) → untold (names ++ name ∷ []) ≡ with_name name (untold names)
untold-push names name = fold-append (λ (rows : List Row) n. with_name n rows) [] names (name ∷ [])

pub untold_more : (names : List (List ℕ)) (name : List ℕ) (rows : List Row) → AreUntold names rows → AreUntold (names ++ name ∷ []) (with_name name rows)
untold_more names name rows are = step (has name rows) refl where
  held_more : (n : List ℕ) → is_held (names ++ name ∷ []) n ≡ (is_held names n || bytes_eq n name)
  held_more n = list_any-append (λ held. bytes_eq n held) names (name ∷ []) ∙ ap (λ b. is_held names n || b) (or_false (bytes_eq n name))

  has_more : (n : List ℕ) → has n (rows ++ (name, unset) ∷ []) ≡ (has n rows || bytes_eq n name)
  has_more n = list_any-append (λ (row : Row). bytes_eq n row.0) rows ((name, unset) ∷ []) ∙ ap (λ b. has n rows || b) (or_false (bytes_eq n name))

  same_names : (n : List ℕ) → bytes_eq n name ≡ true → n ≡ name
  same_names n e = (bytes_eq-Decides n name).0 e

  taken : has name rows ≡ true → (n : List ℕ) → (b : Bool) → bytes_eq n name ≡ b → has n rows ≡ (has n rows || b)
  taken is n true e = ap (λ q. has q rows) (same_names n e) ∙ is ∙ sym (or_true (has n rows))
  taken is n false e = sym (or_false (has n rows))

  step : (b : Bool) → has name rows ≡ b → AreUntold (names ++ name ∷ []) (cond b rows (rows ++ (name, unset) ∷ []))
  step true is = record {
    same = λ n. taken is n (bytes_eq n name) refl ∙ ap (λ b. b || bytes_eq n name) (are.same n) ∙ sym (held_more n);
    none = are.none;
  }
  step false is = record {
    same = λ n. has_more n ∙ ap (λ b. b || bytes_eq n name) (are.same n) ∙ sym (held_more n);
    none = all_more rows (name, unset) are.none refl;
  }
