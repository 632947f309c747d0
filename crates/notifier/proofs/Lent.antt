-- One row more that is lent.
use Rattle.std.proofs.Common.{◌≡◌, ◌∙◌, ℕ, suc, ◌+◌, ◌<◌, List, [], ◌∷◌, ◌++◌, length, take, get_or, filter_map, Option, Some, None, refl, sym, ap, arith}
use Rattle.std.specs.Option.{option_to_list}
use Rattle.std.specs.List.{cons_option}
use Rattle.std.proofs.Math.Seq.{take-suc}
use Rattle.std.proofs.lemmas.List.Elements.{filter_map-append}
use Rattle.notifier_model.specs.declared.row.Row.{Row}

alone : (row : Option Row) → cons_option row [] ≡ option_to_list row
alone None = refl
alone (Some row) = refl

module _ (f : ℕ → Option Row) where
  pub found_more : (keys : List ℕ) (i d : ℕ) → i < length keys → filter_map f (take (i + 1) keys) ≡ filter_map f (take i keys) ++ option_to_list (f (get_or keys i d))
  found_more keys i d within =
      let next : i + 1 ≡ suc i = omega arith in
      ap (λ (ks : List ℕ). filter_map f ks) (ap (λ n. take n keys) next ∙ take-suc keys i d within)
      ∙ filter_map-append f (take i keys) (get_or keys i d ∷ [])
      ∙ ap (λ (rows : List Row). filter_map f (take i keys) ++ rows) (alone (f (get_or keys i d)))

  pub lent_more : (before after : List Row) (keys : List ℕ) (i d : ℕ) (row : Option Row) → i < length keys → after ≡ before ++ option_to_list row → before ≡ filter_map f (take i keys) → row ≡ f (get_or keys i d)
      → after ≡ filter_map f (take (i + 1) keys)
  lent_more before after keys i d row within more so_far is =
      more
      ∙ ap (λ (rows : List Row). rows ++ option_to_list row) so_far
      ∙ ap (λ (r : Option Row). filter_map f (take i keys) ++ option_to_list r) is
      ∙ sym (found_more keys i d within)
