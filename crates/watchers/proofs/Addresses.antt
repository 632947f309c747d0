-- What an ordered map of sources holds, in the terms of `specs/Tallies`.
use Rattle.std.proofs.Common.{◌≡◌, ◌≢◌, ◌∙◌, sym, ap, refl, ℕ, ◌<◌, List, [], ◌∷◌, Bool, true, false, cond, ◌==◌, Option, Some, None, arith}
use Rattle.std.proofs.lemmas.Bool.Decides.{nat_tests}
use Rattle.std.specs.Prelude.{nat_eq, if◌then◌else◌}
use Rattle.std.specs.Map.{lookup}
use Rattle.std.specs.Option.{unwrap_or}
use Rattle.std.specs.Ordering.{nat_cmp}
use Rattle.std.specs.BTreeMap.{is_at}
use Rattle.watchers.specs.Tallies.{tally}

found_at : (a b : ℕ) → is_at (nat_cmp a) b ≡ nat_eq a b
found_at a b = grind (arith, nat_tests)

pub looked_up : (k : ℕ) (counts : List (ℕ × ℕ)) → lookup (is_at (nat_cmp k)) counts ≡ lookup (nat_eq k) counts
looked_up k [] = refl
looked_up k (e ∷ counts) = ap (λ (b : Bool). cond b (Some e.1) (lookup (is_at (nat_cmp k)) counts)) (found_at k e.0) ∙ ap (cond (nat_eq k e.0) (Some e.1)) (looked_up k counts)

pub updated : (old new : List (ℕ × ℕ)) (source count : ℕ) (written : Option ℕ) → unwrap_or written 0 ≡ count
    → ((k : ℕ) → lookup (is_at (nat_cmp k)) new ≡ cond (is_at (nat_cmp source) k) written (lookup (is_at (nat_cmp k)) old))
    → (k : ℕ) → tally new k ≡ (if source == k then count else tally old k)
updated old new source count written is update k =
    ap (λ (o : Option ℕ). unwrap_or o 0) (
    sym (looked_up k new) ∙ update k ∙ ap (λ (b : Bool). cond b written (lookup (is_at (nat_cmp k)) old)) (found_at source k)
    ∙ ap (cond (nat_eq source k) written) (looked_up k old)
    ) ∙ step (nat_eq source k) where
      step : (b : Bool) → unwrap_or (cond b written (lookup (nat_eq k) old)) 0 ≡ (if b then count else tally old k)
      step true = is
      step false = refl

-- who has some is there
pub some_there : (counts : List (ℕ × ℕ)) (k : ℕ) → 0 < tally counts k → lookup (is_at (nat_cmp k)) counts ≢ None
some_there counts k some none =
    let zero : tally counts k ≡ 0 = ap (λ (o : Option ℕ). unwrap_or o 0) (sym (looked_up k counts) ∙ none) in
    absurd (omega arith)
