-- One row more.
use Rattle.std.proofs.Common.{◌≡◌, ◌∙◌, ℕ, ◌+◌, ◌-◌, ◌<◌, ◌≤◌, Bool, true, false, not, cond, List, [], ◌∷◌, ◌++◌, map, filter, refl, sym, ap, arith}
use Rattle.std.specs.Prelude.{nat_lt}
use Rattle.std.proofs.lemmas.Bool.Decides.{nat_tests}
use Rattle.std.proofs.lemmas.List.{map-append}
use Rattle.std.proofs.lemmas.List.Elements.{filter-append}
use Rattle.notifier_model.specs.declared.row.Row.{Row}
use Rattle.restarts.specs.Ahead.{ahead, at_last, all_ahead, left_out, has_room, leap}

pub ahead_more : (rows : List Row) (row : Row) → all_ahead (rows ++ row ∷ []) ≡ all_ahead rows ++ all_ahead (row ∷ [])
ahead_more rows row = ap (map ahead) (filter-append has_room rows (row ∷ [])) ∙ map-append ahead (filter has_room rows) (filter has_room (row ∷ []))

pub left_more : (rows : List Row) (row : Row) → left_out (rows ++ row ∷ []) ≡ left_out rows ++ left_out (row ∷ [])
left_more rows row =
    ap (map at_last) (filter-append (λ row. not (has_room row)) rows (row ∷ []))
    ∙ map-append at_last (filter (λ row. not (has_room row)) rows) (filter (λ row. not (has_room row)) (row ∷ []))

-- by whether there is room
pub ahead_yes : (row : Row) → leap < row.sub.want.max_cseq - row.sub.count → all_ahead (row ∷ []) ≡ ahead row ∷ []
ahead_yes row room = let e : has_room row ≡ true = grind (arith, nat_tests) in ap (λ b. map ahead (cond b (row ∷ []) [])) e

pub left_yes : (row : Row) → leap < row.sub.want.max_cseq - row.sub.count → left_out (row ∷ []) ≡ []
left_yes row room = let e : has_room row ≡ true = grind (arith, nat_tests) in ap (λ b. map at_last (cond (not b) (row ∷ []) [])) e

pub ahead_no : (row : Row) → row.sub.want.max_cseq - row.sub.count ≤ leap → all_ahead (row ∷ []) ≡ []
ahead_no row room = let e : has_room row ≡ false = grind (arith, nat_tests) in ap (λ b. map ahead (cond b (row ∷ []) [])) e

pub left_no : (row : Row) → row.sub.want.max_cseq - row.sub.count ≤ leap → left_out (row ∷ []) ≡ at_last row ∷ []
left_no row room = let e : has_room row ≡ false = grind (arith, nat_tests) in ap (λ b. map at_last (cond (not b) (row ∷ []) [])) e
