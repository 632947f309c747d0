-- The rows that a map has.
use Rattle.std.proofs.Common.{◌≡◌, ℕ, zero, suc, ◌+◌, ◌-◌, ◌<◌, List, [], ◌∷◌, ◌++◌, Bool, true, false, cond, not, Option, Some, None, option_map, refl, sym, ap, ◌∙◌, subst, length, map, take, string_bytes, String, slice_get}
use Rattle.std.specs.Prelude.{nat_lt, nat_le, is_some, slice_set, slice_index_or, position, if◌then◌else◌}
use Rattle.std.specs.Str.{bytes_eq}
use Rattle.std.specs.List.{position_or_len, swap_remove}
use Rattle.std.specs.Option.{option_map_or}
use Rattle.std.specs.Map.{lookup, set_value, keys_of}
use Rattle.std.proofs.lemmas.List.{map-set}
use Rattle.std.specs.declared.alloc.Global.{Global}
use Rattle.indexmap.specs.IndexMap.{insert_entry, swap_remove_entry, swap_remove_by}
use Rattle.watchers.specs.declared.row.Watcher.{Watcher}
use Rattle.watchers.specs.Rows.{Row, rows_in, found, changed, without, answered, was_sent}

abbrev pub Entry : Type 0
Entry = String Global × Watcher

abbrev pub row_of : Entry → Row
row_of e = (string_bytes e.0, e.1)

pub rows_len : (es : List Entry) → length (rows_in es) ≡ length es
rows_len [] = refl
rows_len (e ∷ es) = ap suc (rows_len es)

keys_len : (es : List Entry) → length (keys_of es) ≡ length es
keys_len [] = refl
keys_len (e ∷ es) = ap suc (keys_len es)

pub row_at : (es : List Entry) (n : ℕ) → slice_get (rows_in es) n ≡ option_map row_of (slice_get es n)
row_at [] n = refl
row_at (e ∷ es) zero = refl
row_at (e ∷ es) (suc n) = row_at es n

pub rows_append : (es : List Entry) (e : Entry) → rows_in (es ++ e ∷ []) ≡ rows_in es ++ row_of e ∷ []
rows_append [] e = refl
rows_append (x ∷ es) e = ap (λ rows. row_of x ∷ rows) (rows_append es e)

module _ (tag : List ℕ) where
  abbrev pub named : String Global → Bool
  named k = bytes_eq tag (string_bytes k)

  abbrev is_row : Row → Bool
  is_row row = bytes_eq tag row.0

  pub found_lookup : (es : List Entry) → found tag (rows_in es) ≡ lookup named es
  found_lookup [] = refl
  found_lookup (e ∷ es) = ap (λ (rest : Option Watcher). cond (bytes_eq tag (string_bytes e.0)) (Some e.1) rest) (found_lookup es)

  -- ---- one changes

  pub changed_none : (f : Watcher → Watcher) (es : List Entry) → lookup named es ≡ None → changed tag f (rows_in es) ≡ rows_in es
  changed_none f [] e = refl
  changed_none f (x ∷ es) e = step (bytes_eq tag (string_bytes x.0)) (changed_none f es) e where
    step : (b : Bool) → (lookup named es ≡ None → changed tag f (rows_in es) ≡ rows_in es) → cond b (Some x.1) (lookup named es) ≡ None → cond b ((string_bytes x.0, f x.1) ∷ rows_in es) (row_of x ∷ changed tag f (rows_in es)) ≡ row_of x ∷ rows_in es
    step true rest k = absurd cc
    step false rest k = ap (λ rows. row_of x ∷ rows) (rest k)

  pub changed_some : (f : Watcher → Watcher) (es : List Entry) (found : Watcher) → lookup named es ≡ Some found
      → rows_in (set_value named es (f found)) ≡ changed tag f (rows_in es)
  changed_some f [] found e = absurd cc
  changed_some f (x ∷ es) found e = step (bytes_eq tag (string_bytes x.0)) (changed_some f es found) e where
    step : (b : Bool) → (lookup named es ≡ Some found → rows_in (set_value named es (f found)) ≡ changed tag f (rows_in es)) → cond b (Some x.1) (lookup named es) ≡ Some found
        → rows_in (cond b ((x.0, f found) ∷ es) (x ∷ set_value named es (f found))) ≡ cond b ((string_bytes x.0, f x.1) ∷ rows_in es) (row_of x ∷ changed tag f (rows_in es))
    step true rest k = let same : x.1 ≡ found = cc in ap (λ w. (string_bytes x.0, f w) ∷ rows_in es) (sym same)
    step false rest k = ap (λ rows. row_of x ∷ rows) (rest k)

  -- ---- one goes

  before : (es : List Entry) → position_or_len named (keys_of es) ≡ position_or_len is_row (rows_in es)
  before [] = refl
  before (e ∷ es) = ap (λ (n : ℕ). cond (not (bytes_eq tag (string_bytes e.0))) (1 + n) 0) (before es)

  pub place_rows : (es : List Entry) → position named (keys_of es) ≡ position is_row (rows_in es)
  place_rows es = at (position_or_len named (keys_of es)) (position_or_len is_row (rows_in es)) (before es) (length (keys_of es)) (length (rows_in es)) (keys_len es ∙ sym (rows_len es)) where
    at : (m n : ℕ) → m ≡ n → (k l : ℕ) → k ≡ l → cond (nat_lt m k) (Some m) None ≡ cond (nat_lt n l) (Some n) None
    at m n e k l f = cc

  take_rows : (n : ℕ) (es : List Entry) → rows_in (take n es) ≡ take n (rows_in es)
  take_rows zero [] = refl
  take_rows (suc n) [] = refl
  take_rows zero (e ∷ es) = refl
  take_rows (suc n) (e ∷ es) = ap (λ rows. row_of e ∷ rows) (take_rows n es)

  index_rows : (es : List Entry) (n : ℕ) (d : Entry) → row_of (slice_index_or es n d) ≡ slice_index_or (rows_in es) n (row_of d)
  index_rows [] n d = refl
  index_rows (e ∷ es) zero d = refl
  index_rows (e ∷ es) (suc n) d = index_rows es n d

  swap_rows : (es : List Entry) (i : ℕ) (d : Entry) → rows_in (swap_remove es i d) ≡ swap_remove (rows_in es) i (row_of d)
  swap_rows es i d =
      let last = slice_index_or es (length es - 1) d in
      take_rows (length es - 1) (slice_set es i last)
      ∙ ap (take (length es - 1)) (map-set row_of es i last ∙ ap (λ (r : Row). slice_set (rows_in es) i r) (index_rows es (length es - 1) d))
      ∙ ap (λ (n : ℕ). take (n - 1) (slice_set (rows_in es) i (slice_index_or (rows_in es) (n - 1) (row_of d)))) (sym (rows_len es))

  pub without_rows : (es : List Entry) → rows_in (swap_remove_entry named es) ≡ without tag (rows_in es)
  without_rows [] = refl
  without_rows (e ∷ es) = step (position named (keys_of (e ∷ es))) (position is_row (rows_in (e ∷ es))) (place_rows (e ∷ es)) where
    step : (o o' : Option ℕ) → o ≡ o' → rows_in (option_map_or (λ i. swap_remove (e ∷ es) i e) o (e ∷ es)) ≡ option_map_or (λ i. swap_remove (rows_in (e ∷ es)) i (row_of e)) o' (rows_in (e ∷ es))
    step None o' k = ap (λ (x : Option ℕ). option_map_or (λ i. swap_remove (rows_in (e ∷ es)) i (row_of e)) x (rows_in (e ∷ es))) k
    step (Some i) o' k = swap_rows (e ∷ es) i e ∙ ap (λ (x : Option ℕ). option_map_or (λ j. swap_remove (rows_in (e ∷ es)) j (row_of e)) x (rows_in (e ∷ es))) k

-- ---- an answer came

-- what an answer makes of a row: one to what never went out changes nothing
abbrev pub if_sent : ℕ → ℕ → Watcher → Watcher
if_sent number code w = if nat_le number w.sent then answered number code w else w

pub same_source : (number code : ℕ) (w : Watcher) → (if_sent number code w).source ≡ w.source
same_source number code w = at (nat_le number w.sent) where
  at : (b : Bool) → (cond b (answered number code w) w).source ≡ w.source
  at true = refl
  at false = refl

pub answered_if : (tag : List ℕ) (number code : ℕ) (rows : List Row)
    → changed tag (if_sent number code) rows ≡ (if not (was_sent tag number rows) then rows else changed tag (answered number code) rows)
answered_if tag number code [] = refl
answered_if tag number code (row ∷ rows) = step (bytes_eq tag row.0) (answered_if tag number code rows) where
  here : (s : Bool) → (row.0, cond s (answered number code row.1) row.1) ∷ rows ≡ cond (not s) (row ∷ rows) ((row.0, answered number code row.1) ∷ rows)
  here true = refl
  here false = refl

  there : (s : Bool) → row ∷ cond (not s) rows (changed tag (answered number code) rows) ≡ cond (not s) (row ∷ rows) (row ∷ changed tag (answered number code) rows)
  there true = refl
  there false = refl

  step : (b : Bool) → changed tag (if_sent number code) rows ≡ cond (not (was_sent tag number rows)) rows (changed tag (answered number code) rows)
      → cond b ((row.0, if_sent number code row.1) ∷ rows) (row ∷ changed tag (if_sent number code) rows)
      ≡ cond (not (option_map_or (λ (w : Watcher). nat_le number w.sent) (cond b (Some row.1) (found tag rows)) false)) (row ∷ rows)
      (cond b ((row.0, answered number code row.1) ∷ rows) (row ∷ changed tag (answered number code) rows))
  step true rest = here (nat_le number row.1.sent)
  step false rest = ap (λ (r : List Row). row ∷ r) rest ∙ there (was_sent tag number rows)

-- ---- one comes

pub insert_new : (tag : String Global) (w : Watcher) (es : List Entry) → lookup (named (string_bytes tag)) es ≡ None
    → insert_entry (λ a b. bytes_eq (string_bytes a) (string_bytes b)) es tag w ≡ es ++ (tag, w) ∷ []
insert_new tag w [] e = refl
insert_new tag w (x ∷ es) e = step (bytes_eq (string_bytes tag) (string_bytes x.0)) (insert_new tag w es) e where
  step : (b : Bool) → (lookup (named (string_bytes tag)) es ≡ None → insert_entry (λ a c. bytes_eq (string_bytes a) (string_bytes c)) es tag w ≡ es ++ (tag, w) ∷ [])
      → cond b (Some x.1) (lookup (named (string_bytes tag)) es) ≡ None
      → cond b ((x.0, w) ∷ es) (x ∷ insert_entry (λ a c. bytes_eq (string_bytes a) (string_bytes c)) es tag w) ≡ x ∷ es ++ (tag, w) ∷ []
  step true rest k = absurd cc
  step false rest k = ap (λ rows. x ∷ rows) (rest k)

pub is_missing : {X : Type 0} (o : Option X) → is_some o ≡ false → o ≡ None
is_missing None e = refl
is_missing (Some x) e = absurd cc

pub begun_rows : (key : String Global) (tag : List ℕ) (w : Watcher) (es new : List Entry) → string_bytes key ≡ tag → is_some (lookup (named tag) es) ≡ false
    → new ≡ insert_entry (λ a b. bytes_eq (string_bytes a) (string_bytes b)) es key w → rows_in new ≡ rows_in es ++ (tag, w) ∷ []
begun_rows key tag w es new is miss made =
    let missing : lookup (named (string_bytes key)) es ≡ None = subst (λ (t : List ℕ). lookup (named t) es ≡ None) (sym is) (is_missing (lookup (named tag) es) miss) in
    ap rows_in (made ∙ insert_new key w es missing) ∙ rows_append es (key, w) ∙ ap (λ (t : List ℕ). rows_in es ++ (t, w) ∷ []) is
