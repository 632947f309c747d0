-- The rows that a map has.
use Rattle.std.proofs.Common.{◌≡◌, ℕ, zero, suc, ◌+◌, ◌<◌, List, [], ◌∷◌, ◌++◌, Bool, true, false, cond, ◌||◌, Option, Some, None, refl, sym, ap, ◌∙◌, length, map, take, string_bytes, String}
use Rattle.std.specs.Prelude.{is_some, slice_get}
use Rattle.std.specs.Str.{bytes_eq}
use Rattle.std.specs.Map.{lookup, set_value}
use Rattle.std.proofs.lemmas.List.Sums.{fold-append}
use Rattle.std.proofs.lemmas.List.{append-nil, take_more}
use Rattle.std.proofs.lemmas.Option.{slice_get_within, get_or_from_slice_get}
use Rattle.std.proofs.lemmas.List.Concat.{flat_map-append}
use Rattle.indexmap.specs.IndexMap.{insert_entry}
use Rattle.std.specs.declared.alloc.Global.{Global}
use Rattle.package.specs.Values.{MailChange}
use Rattle.keeper.specs.Told.{Row, rows_in, has, with_name, with_change, told_mail, held_mail, rows_of, last_changes}

abbrev pub Entry : Type 0
Entry = String Global × List MailChange

abbrev pub named : List ℕ → String Global → Bool
named name k = bytes_eq name (string_bytes k)

-- ---- a mailbox was told something

module _ (m : MailChange) where
  pub told_none : (es : List Entry) → lookup (named m.mailbox) es ≡ None → told_mail m (rows_in es) ≡ rows_in es
  told_none [] e = refl
  told_none (x ∷ es) e = step (bytes_eq m.mailbox (string_bytes x.0)) (told_none es) e where
    step : (b : Bool) → (lookup (named m.mailbox) es ≡ None → told_mail m (rows_in es) ≡ rows_in es) → cond b (Some x.1) (lookup (named m.mailbox) es) ≡ None
        → cond b ((string_bytes x.0, with_change m x.1) ∷ rows_in es) ((string_bytes x.0, x.1) ∷ told_mail m (rows_in es)) ≡ (string_bytes x.0, x.1) ∷ rows_in es
    step true rest k = absurd cc
    step false rest k = ap (λ (rows : List Row). (string_bytes x.0, x.1) ∷ rows) (rest k)

  pub told_some : (es : List Entry) (found : List MailChange) → lookup (named m.mailbox) es ≡ Some found
      → rows_in (set_value (named m.mailbox) es (with_change m found)) ≡ told_mail m (rows_in es)
  told_some [] found e = absurd cc
  told_some (x ∷ es) found e = step (bytes_eq m.mailbox (string_bytes x.0)) (told_some es found) e where
    step : (b : Bool) → (lookup (named m.mailbox) es ≡ Some found → rows_in (set_value (named m.mailbox) es (with_change m found)) ≡ told_mail m (rows_in es)) → cond b (Some x.1) (lookup (named m.mailbox) es) ≡ Some found
        → rows_in (cond b ((x.0, with_change m found) ∷ es) (x ∷ set_value (named m.mailbox) es (with_change m found)))
        ≡ cond b ((string_bytes x.0, with_change m x.1) ∷ rows_in es) ((string_bytes x.0, x.1) ∷ told_mail m (rows_in es))
    step true rest k = let same : x.1 ≡ found = cc in ap (λ (c : List MailChange). (string_bytes x.0, with_change m c) ∷ rows_in es) (sym same)
    step false rest k = ap (λ (rows : List Row). (string_bytes x.0, x.1) ∷ rows) (rest k)

-- a row that is put in its own place
pub put_same : (name : List ℕ) (es : List Entry) (found : List MailChange) → lookup (named name) es ≡ Some found
    → rows_in (set_value (named name) es found) ≡ rows_in es
put_same name [] found e = absurd cc
put_same name (x ∷ es) found e = step (bytes_eq name (string_bytes x.0)) (put_same name es found) e where
  step : (b : Bool) → (lookup (named name) es ≡ Some found → rows_in (set_value (named name) es found) ≡ rows_in es) → cond b (Some x.1) (lookup (named name) es) ≡ Some found
      → rows_in (cond b ((x.0, found) ∷ es) (x ∷ set_value (named name) es found)) ≡ (string_bytes x.0, x.1) ∷ rows_in es
  step true rest k = let same : x.1 ≡ found = cc in ap (λ (c : List MailChange). (string_bytes x.0, c) ∷ rows_in es) (sym same)
  step false rest k = ap (λ (rows : List Row). (string_bytes x.0, x.1) ∷ rows) (rest k)

-- ---- one more mailbox

pub has_lookup : (name : List ℕ) (es : List Entry) → has name (rows_in es) ≡ is_some (lookup (named name) es)
has_lookup name [] = refl
has_lookup name (e ∷ es) = step (bytes_eq name (string_bytes e.0)) (has_lookup name es) where
  step : (b : Bool) → has name (rows_in es) ≡ is_some (lookup (named name) es) → (b || has name (rows_in es)) ≡ is_some (cond b (Some e.1) (lookup (named name) es))
  step true rest = refl
  step false rest = rest

rows_append : (es : List Entry) (e : Entry) → rows_in (es ++ e ∷ []) ≡ rows_in es ++ (string_bytes e.0, e.1) ∷ []
rows_append [] e = refl
rows_append (x ∷ es) e = ap (λ (rows : List Row). (string_bytes x.0, x.1) ∷ rows) (rows_append es e)

abbrev same_name : String Global → String Global → Bool
same_name a b = bytes_eq (string_bytes a) (string_bytes b)

insert_new : (name : String Global) (u : List MailChange) (es : List Entry) → lookup (named (string_bytes name)) es ≡ None
    → insert_entry same_name es name u ≡ es ++ (name, u) ∷ []
insert_new name u [] e = refl
insert_new name u (x ∷ es) e = step (bytes_eq (string_bytes name) (string_bytes x.0)) (insert_new name u es) e where
  step : (b : Bool) → (lookup (named (string_bytes name)) es ≡ None → insert_entry same_name es name u ≡ es ++ (name, u) ∷ [])
      → cond b (Some x.1) (lookup (named (string_bytes name)) es) ≡ None
      → cond b ((x.0, u) ∷ es) (x ∷ insert_entry same_name es name u) ≡ x ∷ es ++ (name, u) ∷ []
  step true rest k = absurd cc
  step false rest k = ap (λ (rows : List Entry). x ∷ rows) (rest k)

is_missing : {X : Type 0} (o : Option X) → is_some o ≡ false → o ≡ None
is_missing None e = refl
is_missing (Some x) e = absurd cc

pub add_there : (name : List ℕ) (es : List Entry) → is_some (lookup (named name) es) ≡ true → rows_in es ≡ with_name name (rows_in es)
add_there name es is =
    let h : has name (rows_in es) ≡ true = has_lookup name es ∙ is in
    sym (ap (λ (b : Bool). cond b (rows_in es) (rows_in es ++ (name, []) ∷ [])) h)

pub add_new : (name : String Global) (u : List MailChange) (es new : List Entry) → is_some (lookup (named (string_bytes name)) es) ≡ false
    → u ≡ [] → new ≡ insert_entry same_name es name u → rows_in new ≡ with_name (string_bytes name) (rows_in es)
add_new name u es new is none made =
    let h : has (string_bytes name) (rows_in es) ≡ false = has_lookup (string_bytes name) es ∙ is in
    ap rows_in (made ∙ insert_new name u es (is_missing _ is)) ∙ rows_append es (name, u) ∙ ap (λ (c : List MailChange). rows_in es ++ (string_bytes name, c) ∷ []) none
    ∙ sym (ap (λ (b : Bool). cond b (rows_in es) (rows_in es ++ (string_bytes name, []) ∷ [])) h)

-- ---- all of them

pub one_held : (ms : List MailChange) (m : MailChange) → rows_of (ms ++ m ∷ []) ≡ held_mail (rows_of ms) m
one_held ms m = fold-append held_mail [] ms (m ∷ [])

pub one_row : (rows : List Row) (n : ℕ) (row : Row) → slice_get rows n ≡ Some row
    → last_changes (take (n + 1) rows) ≡ last_changes (take n rows) ++ row.1
one_row rows n row is =
    let lt : n < length rows = slice_get_within rows n row is in
    let more : take (n + 1) rows ≡ take n rows ++ row ∷ [] = take_more rows n row lt ∙ ap (λ (x : Row). take n rows ++ x ∷ []) (get_or_from_slice_get rows n row row is) in
    ap last_changes more ∙ flat_map-append (λ (r : Row). r.1) (take n rows) (row ∷ [])
    ∙ ap (λ (l : List MailChange). last_changes (take n rows) ++ l) (append-nil row.1)

-- none is left
pub no_row : (rows : List Row) (n : ℕ) → slice_get rows n ≡ None → take n rows ≡ rows
no_row [] zero is = refl
no_row [] (suc n) is = refl
no_row (row ∷ rows) zero is = absurd cc
no_row (row ∷ rows) (suc n) is = ap (λ (l : List Row). row ∷ l) (no_row rows n is)
