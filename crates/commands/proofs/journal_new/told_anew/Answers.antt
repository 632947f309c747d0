use Rattle.std.proofs.Common.{◌∙◌, ◌++◌, ◌∷◌, [], List, ℕ, map, string_bytes, String, sym, ap, arith}
use Rattle.std.specs.declared.alloc.Global.{Global}
use Rattle.std.proofs.lemmas.List.FromFn.{map-range_with_len_more}
use Rattle.arguments.specs.Setup.{dealt_names}
use Rattle.journal.specs.declared.record.Told.{Told}
use Rattle.resumption.specs.Told.{told_with}
use Rattle.commands.proofs.journal_new.told_anew.Goals as goal

pub loop-worker-preserved : goal.loop-worker-preserved
loop-worker-preserved c =
    let at = c.loop-worker in let wish = c.args.wish.now in let changes = c.args.changes.now in
    c.in_ok-push.ensures.items
    ∙ ap (λ (t : Told). at.told.items ++ t ∷ [])
    (c.in_ok-told_with.ensures
    ∙ ap (λ (names : List (String Global)). told_with (map string_bytes names) changes) c.as_slice.ensures.value
    ∙ ap (λ (names : List (List ℕ)). told_with names changes) c.in_ok-names.ensures)
    ∙ ap (λ (l : List Told). l ++ told_with (dealt_names wish.workers at.worker wish.mailboxes.now) changes ∷ []) at.invariant
    ∙ sym (map-range_with_len_more (λ worker. told_with (dealt_names wish.workers worker wish.mailboxes.now) changes) 0 at.worker at.worker (omega arith))
