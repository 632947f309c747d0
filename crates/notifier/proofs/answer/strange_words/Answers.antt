use Rattle.std.proofs.Common.{◌∷◌, ◌++◌, [], ap, sym, ◌∙◌, filter, take}
use Rattle.std.proofs.lemmas.List.{take_more, take_all}
use Rattle.std.proofs.lemmas.List.Elements.{filter-append}
use Rattle.notifier_model.specs.Requests.{is_strange}
use Rattle.notifier.proofs.answer.strange_words.Goals as goal

pub loop-word-preserved : goal.loop-word-preserved
loop-word-preserved c =
    let at = c.loop-word in
    let required = c.args.required.now in
    let past = take at.word-index required in
    let word = c.word-item.result in
    c.in_ok-push_strange.ensures
    ∙ ap (λ l. l ++ filter is_strange (word ∷ [])) at.invariant
    ∙ sym (filter-append is_strange past (word ∷ []))
    ∙ sym (ap (filter is_strange) (take_more required at.word-index word c.loop-word-test.true ∙ ap (λ x. past ++ x ∷ []) (sym c.word-item.is)))

pub returns : goal.returns
returns c = c.loop-word.invariant ∙ ap (filter is_strange) (take_all c.loop-word.word-index c.args.required.now c.loop-word-test.false)
