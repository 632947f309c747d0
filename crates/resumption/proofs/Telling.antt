-- What is told, with one entry or one name more.
use Rattle.std.proofs.Common.{◌≡◌, ◌∙◌, ℕ, ◌+◌, ◌<◌, Bool, true, false, not, cond, ◌||◌, List, [], ◌∷◌, ◌++◌, length, take, get_or, map, filter, string_bytes, String, append_assoc, refl, sym, ap, arith}
use Rattle.std.specs.Str.{bytes_eq}
use Rattle.std.specs.List.{list_any, fold}
use Rattle.std.specs.declared.alloc.Global.{Global}
use Rattle.std.proofs.lemmas.List.{map-append, append-nil}
use Rattle.std.proofs.lemmas.List.Elements.{filter-append}
use Rattle.std.proofs.lemmas.List.Folds.{list_any-append}
use Rattle.std.proofs.lemmas.List.Sums.{fold-append}
use Rattle.std.proofs.lemmas.Slice.Eq.{bytes_eq-Decides}
use Rattle.package.specs.declared.change.Change.{Change}
use Rattle.package.specs.declared.change.Change.TheVariants as change
use Rattle.package.specs.Texts.{is_word}
use Rattle.package.specs.Values.{MailChange, Progress, IsMailChange}
use Rattle.notifier_model.specs.declared.row.Row.{Row}
use Rattle.resumption.specs.Told.{is_mark, mark, marks, mails, with_name, each_once, told_of, is_of_refer, begins, tags, steps_of}
use Rattle.resumption.proofs.Lists.{taken_more, any-map}

pub mails-append : (a b : List MailChange) → mails (a ++ b) ≡ mails a ++ mails b
mails-append a b =
    ap (map (λ m. change.Mail m)) (filter-append (λ m. not (is_mark m)) a b)
    ∙ map-append (λ m. change.Mail m) (filter (λ m. not (is_mark m)) a) (filter (λ m. not (is_mark m)) b)

pub begins-append : (a b : List Row) → begins (a ++ b) ≡ begins a ++ begins b
begins-append a b =
    ap (map (λ (row : Row). change.Begin row.sub.usage.local_tag)) (filter-append is_of_refer a b)
    ∙ map-append (λ (row : Row). change.Begin row.sub.usage.local_tag) (filter is_of_refer a) (filter is_of_refer b)

pub tags-append : (a b : List Row) → tags (a ++ b) ≡ tags a ++ tags b
tags-append a b =
    ap (map (λ (row : Row). row.sub.usage.local_tag)) (filter-append is_of_refer a b)
    ∙ map-append (λ (row : Row). row.sub.usage.local_tag) (filter is_of_refer a) (filter is_of_refer b)

pub steps-append : (names : List (List ℕ)) (a b : List Progress) → steps_of names (a ++ b) ≡ steps_of names a ++ steps_of names b
steps-append names a b = filter-append (λ (p : Progress). list_any (bytes_eq p.tag) names) a b

pub marks-append : (a b : List (List ℕ)) → marks (a ++ b) ≡ marks a ++ marks b
marks-append a b = ap (map mark) (filter-append is_word a b) ∙ map-append mark (filter is_word a) (filter is_word b)

-- the marks of texts
abbrev pub text_marks : List (String Global) → List MailChange
text_marks names = marks (map string_bytes names)

pub text_marks-append : (a b : List (String Global)) → text_marks (a ++ b) ≡ text_marks a ++ text_marks b
text_marks-append a b = ap marks (map-append string_bytes a b) ∙ marks-append (map string_bytes a) (map string_bytes b)

-- ---- names, each once

-- a set to which a name was added
pub set_with_name : (keys : List (String Global)) (key : String Global)
    → map string_bytes (cond (list_any (λ k. bytes_eq (string_bytes key) (string_bytes k)) keys) keys (keys ++ key ∷ []))
    ≡ with_name (map string_bytes keys) (string_bytes key)
set_with_name keys key =
    step (list_any (λ k. bytes_eq (string_bytes key) (string_bytes k)) keys)
    ∙ ap (λ b. cond b (map string_bytes keys) (map string_bytes keys ++ string_bytes key ∷ [])) (sym (any-map (bytes_eq (string_bytes key)) string_bytes keys)) where
      step : (b : Bool) → map string_bytes (cond b keys (keys ++ key ∷ [])) ≡ cond b (map string_bytes keys) (map string_bytes keys ++ string_bytes key ∷ [])
      step true = refl
      step false = map-append string_bytes keys (key ∷ [])

-- one more item whose name is in the set
pub set_more : {X : Type 0} (f : X → List ℕ) (xs : List X) (i : ℕ) (x : X) (keys after : List (String Global)) (key : String Global)
    → i < length xs → x ≡ get_or xs i x → string_bytes key ≡ f x → map string_bytes keys ≡ each_once (map f (take i xs))
    → after ≡ cond (list_any (λ k. bytes_eq (string_bytes key) (string_bytes k)) keys) keys (keys ++ key ∷ [])
    → map string_bytes after ≡ each_once (map f (take (i + 1) xs))
set_more {X} f xs i x keys after key below is named held new =
    ap (map string_bytes) new
    ∙ set_with_name keys key
    ∙ ap (λ (names : List (List ℕ)). with_name names (string_bytes key)) held
    ∙ ap (with_name (each_once (map f (take i xs)))) named
    ∙ sym (fold-append with_name [] (map f (take i xs)) (f x ∷ []))
    ∙ ap each_once (sym (map-append f (take i xs) (x ∷ [])))
    ∙ ap (λ (ys : List X). each_once (map f ys)) (sym (taken_more xs i x below is))

-- ---- whether a name is one of them

is_or : (a b : Bool) → (b ≡ true → a ≡ true) → a ≡ (a || b)
is_or true b h = refl
is_or false true h = h refl
is_or false false h = refl

any_with : (name : List ℕ) (names : List (List ℕ)) (new : List ℕ) → list_any (bytes_eq name) (with_name names new) ≡ list_any (bytes_eq name) (names ++ new ∷ [])
any_with name names new = step (list_any (bytes_eq new) names) refl where
  same : list_any (bytes_eq new) names ≡ true → bytes_eq name new ≡ true → list_any (bytes_eq name) names ≡ true
  same there is = let equal : name ≡ new = (bytes_eq-Decides name new).0 is in ap (λ (n : List ℕ). list_any (bytes_eq n) names) equal ∙ there

  or_false : (b : Bool) → b ≡ (b || false)
  or_false true = refl
  or_false false = refl

  step : (b : Bool) → list_any (bytes_eq new) names ≡ b → list_any (bytes_eq name) (cond b names (names ++ new ∷ [])) ≡ list_any (bytes_eq name) (names ++ new ∷ [])
  step true there =
      is_or (list_any (bytes_eq name) names) (bytes_eq name new) (same there)
      ∙ ap (λ b. list_any (bytes_eq name) names || b) (or_false (bytes_eq name new))
      ∙ sym (list_any-append (bytes_eq name) names (new ∷ []))
  step false there = refl

any_fold : (name : List ℕ) (first more : List (List ℕ)) → list_any (bytes_eq name) (fold with_name first more) ≡ list_any (bytes_eq name) (first ++ more)
any_fold name first [] = ap (list_any (bytes_eq name)) (sym (append-nil first))
any_fold name first (new ∷ more) =
    any_fold name (with_name first new) more
    ∙ list_any-append (bytes_eq name) (with_name first new) more
    ∙ ap (λ b. b || list_any (bytes_eq name) more) (any_with name first new)
    ∙ sym (list_any-append (bytes_eq name) (first ++ new ∷ []) more)
    ∙ ap (list_any (bytes_eq name)) (append_assoc first (new ∷ []) more)

pub any_once : (name : List ℕ) (names : List (List ℕ)) → list_any (bytes_eq name) (each_once names) ≡ list_any (bytes_eq name) names
any_once name names = any_fold name [] names

-- what is told of mailboxes, by their names or by each of these once
pub told_once : (names : List (List ℕ)) (c : Change) → told_of (each_once names) c ≡ told_of names c
told_once names (change.Mail m) = ap (λ b. cond b (m ∷ []) []) (any_once m.mailbox names)
told_once names (change.Begin tag) = refl
told_once names (change.Step step) = refl
told_once names (change.Forget tag) = refl

-- ---- one change

pub told_yes : (keys : List (String Global)) (m : MailChange) → list_any (λ k. bytes_eq m.mailbox (string_bytes k)) keys ≡ true → told_of (map string_bytes keys) (change.Mail m) ≡ m ∷ []
told_yes keys m there = ap (λ b. cond b (m ∷ []) []) (any-map (bytes_eq m.mailbox) string_bytes keys ∙ there)

pub told_no : (keys : List (String Global)) (m : MailChange) → list_any (λ k. bytes_eq m.mailbox (string_bytes k)) keys ≡ false → told_of (map string_bytes keys) (change.Mail m) ≡ []
told_no keys m there = ap (λ b. cond b (m ∷ []) []) (any-map (bytes_eq m.mailbox) string_bytes keys ∙ there)

-- ---- one step

-- by the tags, or by each of these once
pub step_once : (names : List (List ℕ)) (p : Progress) → steps_of (each_once names) (p ∷ []) ≡ steps_of names (p ∷ [])
step_once names p = ap (λ b. cond b (p ∷ []) []) (any_once p.tag names)

pub step_yes : (keys : List (String Global)) (p : Progress) → list_any (λ k. bytes_eq p.tag (string_bytes k)) keys ≡ true → steps_of (map string_bytes keys) (p ∷ []) ≡ p ∷ []
step_yes keys p there = ap (λ b. cond b (p ∷ []) []) (any-map (bytes_eq p.tag) string_bytes keys ∙ there)

pub step_no : (keys : List (String Global)) (p : Progress) → list_any (λ k. bytes_eq p.tag (string_bytes k)) keys ≡ false → steps_of (map string_bytes keys) (p ∷ []) ≡ []
step_no keys p there = ap (λ b. cond b (p ∷ []) []) (any-map (bytes_eq p.tag) string_bytes keys ∙ there)

-- ---- marks

is_good : (name : List ℕ) → is_word name ≡ true → IsMailChange (mark name)
is_good name named = record { named = named; urgent_new = omega arith; urgent_old = omega arith }

pub mark_none : (name : List ℕ) → (IsMailChange (mark name) → ⊥) → marks (name ∷ []) ≡ []
mark_none name none = step (is_word name) refl where
  step : (b : Bool) → is_word name ≡ b → map mark (cond b (name ∷ []) []) ≡ []
  step true is = absurd (none (is_good name is))
  step false is = refl

pub mark_some : (name : List ℕ) (m : MailChange) → IsMailChange (mark name) → m ≡ mark name → marks (name ∷ []) ≡ m ∷ []
mark_some name m good is = ap (λ b. map mark (cond b (name ∷ []) [])) good.named ∙ ap (λ (x : MailChange). x ∷ []) (sym is)
