-- Names, each once.
use Rattle.std.proofs.Common.{◌≡◌, ◌≢◌, ◌<◌, ◌+◌, ℕ, List, [], ◌∷◌, ◌++◌, length, take, get_or, Bool, true, false, cond, ◌||◌, refl, sym, ap, ◌∙◌, map, string_bytes, String}
use Rattle.std.specs.Str.{bytes_eq}
use Rattle.std.specs.List.{list_any, fold}
use Rattle.std.specs.declared.alloc.Global.{Global}
use Rattle.std.proofs.lemmas.List.{append-nil, map-append, take_more}
use Rattle.std.proofs.lemmas.List.Sums.{fold-append}
use Rattle.control_lines.specs.Told.{is_held}
use Rattle.plans.specs.Plans.{with_name, each_once}

-- one name more
pub once_push : (names : List (List ℕ)) (name : List ℕ) → each_once (names ++ name ∷ []) ≡ with_name (each_once names) name
once_push names name = fold-append with_name [] names (name ∷ [])

pub held_keys : (keys : List (String Global)) (name : List ℕ) → is_held (map string_bytes keys) name ≡ list_any (λ k. bytes_eq name (string_bytes k)) keys
held_keys [] name = refl
held_keys (k ∷ keys) name = ap (λ b. bytes_eq name (string_bytes k) || b) (held_keys keys name)

-- a set to which a name was added has the names with that one
pub set_with_name : (keys : List (String Global)) (key : String Global)
    → map string_bytes (cond (list_any (λ k. bytes_eq (string_bytes key) (string_bytes k)) keys) keys (keys ++ key ∷ []))
    ≡ with_name (map string_bytes keys) (string_bytes key)
set_with_name keys key =
    step (list_any (λ k. bytes_eq (string_bytes key) (string_bytes k)) keys) ∙ ap (λ b. cond b (map string_bytes keys) (map string_bytes keys ++ string_bytes key ∷ [])) (sym (held_keys keys (string_bytes key))) where
      step : (b : Bool) → map string_bytes (cond b keys (keys ++ key ∷ [])) ≡ cond b (map string_bytes keys) (map string_bytes keys ++ string_bytes key ∷ [])
      step true = refl
      step false = map-append string_bytes keys (key ∷ [])

-- a set to which one name more of these was added
pub set_more : (names : List (List ℕ)) (i : ℕ) (name : List ℕ) (keys after : List (String Global)) (key : String Global)
    → i < length names → name ≡ get_or names i name → string_bytes key ≡ name → map string_bytes keys ≡ each_once (take i names)
    → after ≡ cond (list_any (λ k. bytes_eq (string_bytes key) (string_bytes k)) keys) keys (keys ++ key ∷ [])
    → map string_bytes after ≡ each_once (take (i + 1) names)
set_more names i name keys after key below is named held new =
    ap (map string_bytes) new
    ∙ set_with_name keys key
    ∙ ap (λ (ns : List (List ℕ)). with_name ns (string_bytes key)) held
    ∙ ap (with_name (each_once (take i names))) named
    ∙ sym (once_push (take i names) name)
    ∙ ap each_once (sym (take_more names i name below ∙ ap (λ (n : List ℕ). take i names ++ n ∷ []) (sym is)))

-- ---- some

with_some : (names : List (List ℕ)) (name : List ℕ) → with_name names name ≢ []
with_some [] name = λ e. absurd cc
with_some (x ∷ names) name = step (is_held (x ∷ names) name) where
  step : (b : Bool) → cond b (x ∷ names) ((x ∷ names) ++ name ∷ []) ≢ []
  step true = λ e. absurd cc
  step false = λ e. absurd cc

some_more : (more names : List (List ℕ)) → names ≢ [] → fold with_name names more ≢ []
some_more [] names some = some
some_more (x ∷ more) names some = some_more more (with_name names x) (with_some names x)

-- where names are named there are some
pub once_some : (names : List (List ℕ)) → names ≢ [] → each_once names ≢ []
once_some [] some = absurd (some refl)
once_some (x ∷ names) some = some_more names (with_name [] x) (with_some [] x)

-- ---- again

one_stays : (names : List (List ℕ)) (name : List ℕ) → each_once names ≡ names → each_once (with_name names name) ≡ with_name names name
one_stays names name is = step (is_held names name) refl where
  step : (b : Bool) → is_held names name ≡ b → each_once (cond b names (names ++ name ∷ [])) ≡ cond b names (names ++ name ∷ [])
  step true held = is
  step false held = once_push names name ∙ ap (λ n. with_name n name) is ∙ ap (λ b. cond b names (names ++ name ∷ [])) held

all_stay : (names more : List (List ℕ)) → each_once names ≡ names → each_once (fold with_name names more) ≡ fold with_name names more
all_stay names [] is = is
all_stay names (x ∷ more) is = all_stay (with_name names x) more (one_stays names x is)

-- names that are there once stay as they are
pub once_again : (names : List (List ℕ)) → each_once (each_once names) ≡ each_once names
once_again names = all_stay [] names refl

-- with more behind them they are those of both
pub once_more : (names more : List (List ℕ)) → each_once (each_once names ++ more) ≡ each_once (names ++ more)
once_more names more =
    fold-append with_name [] (each_once names) more ∙ ap (λ n. fold with_name n more) (once_again names) ∙ sym (fold-append with_name [] names more)

pub once_alone : (names : List (List ℕ)) → each_once (names ++ []) ≡ each_once names
once_alone names = ap each_once (append-nil names)
