-- Mailboxes of which lines told, behind others.
use Rattle.std.proofs.Common.{◌≡◌, ◌∙◌, ℕ, Bool, true, false, not, ◌&&◌, cond, List, [], ◌∷◌, ◌++◌, map, string_bytes, String, refl, sym, ap, append_assoc}
use Rattle.std.specs.Str.{bytes_eq}
use Rattle.std.specs.List.{list_any}
use Rattle.std.specs.declared.alloc.Global.{Global}
use Rattle.std.proofs.lemmas.List.Sums.{fold-append}
use Rattle.control_lines.specs.Told.{is_held}
use Rattle.plans.specs.Plans.{with_name, each_once, is_further, with_one_told, with_told}
use Rattle.plans.proofs.Once.{once_push, set_with_name}

-- one name more, each once
pub once_more_told : (names further set : List (List ℕ)) (name : List ℕ) → set ≡ each_once (names ++ further)
    → with_name set name ≡ each_once (names ++ (further ++ name ∷ []))
once_more_told names further set name is =
    ap (λ (n : List (List ℕ)). with_name n name) is
    ∙ sym (once_push (names ++ further) name)
    ∙ ap each_once (append_assoc names further (name ∷ []))

told_push : (most : ℕ) (first done : List (List ℕ)) (name : List ℕ)
    → with_told most first (done ++ name ∷ []) ≡ with_one_told most (with_told most first done) name
told_push most first done name = fold-append (with_one_told most) first done (name ∷ [])

not_there : (may has there : Bool) → (may && (has && not there)) ≡ true → there ≡ false
not_there true true false is = refl
not_there true true true is = absurd cc
not_there true false there is = absurd cc
not_there false has there is = absurd cc

-- one that is added isn't there yet
added : (most : ℕ) (set : List (List ℕ)) (name : List ℕ) → is_further most set name ≡ true → with_name set name ≡ with_one_told most set name
added most set name is =
    ap (λ b. cond b set (set ++ name ∷ [])) (not_there _ _ (is_held set name) is)
    ∙ ap (λ b. cond b (set ++ name ∷ []) set) (sym is)

pub told_more : (most : ℕ) (first done set : List (List ℕ)) (name : List ℕ) → set ≡ with_told most first done → is_further most set name ≡ true
    → with_name set name ≡ with_told most first (done ++ name ∷ [])
told_more most first done set name held is =
    added most set name is ∙ ap (λ (n : List (List ℕ)). with_one_told most n name) held ∙ sym (told_push most first done name)

pub told_no_more : (most : ℕ) (first done set : List (List ℕ)) (name : List ℕ) → set ≡ with_told most first done → is_further most set name ≡ false
    → set ≡ with_told most first (done ++ name ∷ [])
told_no_more most first done set name held is =
    ap (λ b. cond b (set ++ name ∷ []) set) (sym is)
    ∙ ap (λ (n : List (List ℕ)). with_one_told most n name) held
    ∙ sym (told_push most first done name)

-- the set of them, with one name more
pub named : (keys after : List (String Global)) (key : String Global) (name : List ℕ) → string_bytes key ≡ name
    → after ≡ cond (list_any (λ k. bytes_eq (string_bytes key) (string_bytes k)) keys) keys (keys ++ key ∷ [])
    → map string_bytes after ≡ with_name (map string_bytes keys) name
named keys after key name is new =
    ap (map string_bytes) new ∙ set_with_name keys key ∙ ap (with_name (map string_bytes keys)) is
