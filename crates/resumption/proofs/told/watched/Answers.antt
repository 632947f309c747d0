use Rattle.std.proofs.Common.{◌≡◌, ◌∙◌, ◌++◌, ◌∷◌, [], List, ℕ, map, string_bytes, ap}
use Rattle.resumption.specs.Told.{each_once, tags, steps_of, watched}
use Rattle.resumption.proofs.Lists.{one_more}
use Rattle.resumption.proofs.Telling.{steps-append, step_once}
use Rattle.resumption.proofs.told.watched.Goals as goal

pub loop-step-preserved : goal.loop-step-preserved
loop-step-preserved c =
    let at = c.loop-step in
    let names = tags c.args.rows.now in
    let step = c.step-item.result in
    let held : map string_bytes c.in_ok-held.held.keys ≡ each_once names =
    c.in_ok-held.ensures ∙ ap (λ l. each_once (map string_bytes l)) c.as_slice.ensures.value ∙ ap each_once c.in_ok-tags.ensures in
    one_more (watched c.args.rows.now) (steps-append names) c.args.steps.now at.step-index step [] at.left.items _
    c.loop-step-test.true c.step-item.is at.invariant
    (c.in_ok-add_watched.ensures
    ∙ ap (λ l. at.left.items ++ l) (ap (λ (ns : List (List ℕ)). steps_of ns (step ∷ [])) held ∙ step_once names step))
