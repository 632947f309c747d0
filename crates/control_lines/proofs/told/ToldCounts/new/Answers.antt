use Rattle.std.proofs.Common.{◌≡◌, ◌+◌, ◌∷◌, [], ◌++◌, List, ℕ, take, ap, sym, subst, ◌∙◌, string_bytes}
use Rattle.std.proofs.lemmas.List.{take_more}
use Rattle.control_lines.specs.Told.{Row, AreUntold, untold, with_name, rows_in}
use Rattle.control_lines.proofs.Rows.{untold_more, untold-push}
use Rattle.control_lines.proofs.told.ToldCounts.new.Goals as goal

pub loop-name-preserved : goal.loop-name-preserved
loop-name-preserved c =
    let at = c.loop-name.name-index in
    let names = c.args.names.now in
    let name = c.name-item.result in
    let more : take (at + 1) names ≡ take at names ++ name ∷ [] = take_more names at name c.loop-name-test.true ∙ ap (λ n. take at names ++ n ∷ []) (sym c.name-item.is) in
    let is : string_bytes c.in_ok-name.name ≡ name = c.in_ok-name.ensures.ok ∙ c.as_str.ensures in
    let made : rows_in c.add.new.mailboxes.entries ≡ with_name name (rows_in c.loop-name.mailboxes.entries) = c.in_ok-add.ensures.added ∙ ap (λ n. with_name n (rows_in c.loop-name.mailboxes.entries)) is in
    let held = c.loop-name.invariant in
    let are : AreUntold (take at names ++ name ∷ []) (with_name name (rows_in c.loop-name.mailboxes.entries)) = untold_more (take at names) name (rows_in c.loop-name.mailboxes.entries) held.0 in
    let order : rows_in c.add.new.mailboxes.entries ≡ untold (take at names ++ name ∷ []) = made ∙ ap (λ r. with_name name r) held.1 ∙ sym (untold-push (take at names) name) in
    let P : List (List ℕ) → Type 0 = λ l. AreUntold l (rows_in c.add.new.mailboxes.entries) × (rows_in c.add.new.mailboxes.entries ≡ untold l) in
    let Q : List Row → Type 0 = λ r. AreUntold (take at names ++ name ∷ []) r in
    subst P (sym more) (subst Q (sym made) are, order)
