use Rattle.std.proofs.Common.{◌∙◌, ◌++◌, List, ℕ, map, string_bytes, sym, ap}
use Rattle.std.proofs.lemmas.List.{append-nil}
use Rattle.std.proofs.lemmas.List.Concat.{flat_map-append}
use Rattle.resumption.specs.Told.{marks, told_of, all_told}
use Rattle.resumption.proofs.Lists.{one_more}
use Rattle.resumption.proofs.Telling.{told_once}
use Rattle.resumption.proofs.told.told_with.Goals as goal

pub loop-change-preserved : goal.loop-change-preserved
loop-change-preserved c =
    let at = c.loop-change in
    let names = map string_bytes c.args.names.now in
    let change = c.change-item.result in
    one_more (all_told names) (flat_map-append (told_of names)) c.args.changes.now at.change-index change (marks names) at.mail.items _
    c.loop-change-test.true c.change-item.is at.invariant
    (c.in_ok-add_told.ensures
    ∙ ap (λ l. at.mail.items ++ l) (ap (λ (ns : List (List ℕ)). told_of ns change) c.in_ok-held.ensures ∙ told_once names change ∙ sym (append-nil (told_of names change))))
