-- What a service goes on with, with one desk more.
use Rattle.std.proofs.Common.{◌≡◌, ◌∙◌, ℕ, max, List, [], ◌∷◌, ◌++◌, map, Option, refl, sym, ap, append_assoc, arith}
use Rattle.std.proofs.lemmas.List.{append-nil}
use Rattle.package.specs.Content.{Seen}
use Rattle.notifier.specs.Held.{Held, seen_by}
use Rattle.service.specs.declared.begins.Living.{Living}
use Rattle.commands.specs.Begun.{IsSecond, IsLastSecond, AreRows, AreLiving}

pub second_more : {P : Type 0} (seen : P → Seen) (desks : List (Option (Held P))) (desk : Option (Held P)) (last second : ℕ)
    → IsLastSecond (map (seen_by seen) desks) last → IsSecond (seen_by seen desk) second
    → IsLastSecond (map (seen_by seen) (desks ++ desk ∷ [])) (max last second)
second_more seen [] desk last second is of_desk =
    let e : max last second ≡ max second 0 = omega (arith, is) in (second, 0, of_desk, refl, e)
second_more seen (one ∷ desks) desk last second is of_desk =
    let e : max last second ≡ max is.0 (max is.1 second) = omega (arith, is.4) in
    (is.0, max is.1 second, is.2, second_more seen desks desk is.1 second is.3 of_desk, e)

pub living_more : {P : Type 0} (seen : P → Seen) (desks : List (Option (Held P))) (desk : Option (Held P)) (living rows : List Living)
    → AreLiving (map (seen_by seen) desks) living → AreRows (seen_by seen desk) rows
    → AreLiving (map (seen_by seen) (desks ++ desk ∷ [])) (living ++ rows)
living_more seen [] desk living rows are of_desk =
    (rows, [], of_desk, refl, ap (λ (l : List Living). l ++ rows) are ∙ sym (append-nil rows))
living_more seen (one ∷ desks) desk living rows are of_desk =
    (are.0, are.1 ++ rows, are.2, living_more seen desks desk are.1 rows are.3 of_desk, ap (λ (l : List Living). l ++ rows) are.4 ∙ append_assoc are.0 are.1 rows)
