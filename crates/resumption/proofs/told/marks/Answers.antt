use Rattle.std.proofs.Common.{◌∙◌, ℕ, List, [], ◌∷◌, ◌++◌, ap}
use Rattle.resumption.specs.Told.{marks}
use Rattle.resumption.proofs.Lists.{one_more}
use Rattle.resumption.proofs.Telling.{text_marks, text_marks-append}
use Rattle.resumption.proofs.told.marks.Goals as goal

pub loop-name-preserved : goal.loop-name-preserved
loop-name-preserved c =
    let at = c.loop-name in
    one_more text_marks text_marks-append _ at.name-index c.name-item.result [] at.entries.items _ c.loop-name-test.true c.name-item.is at.invariant
    (c.in_ok-add_mark.ensures ∙ ap (λ (n : List ℕ). at.entries.items ++ marks (n ∷ [])) c.as_str.ensures.value)
