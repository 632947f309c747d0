use Rattle.std.proofs.Common.{◌∙◌, ◌++◌, ◌∷◌, [], map, filter, not, sym, ap}
use Rattle.std.proofs.lemmas.List.Elements.{filter-append}
use Rattle.restarts.specs.Withdrawn.{is_held}
use Rattle.restarts.proofs.withdrawal.Parted.over.Goals as goal

pub loop-row-preserved : goal.loop-row-preserved
loop-row-preserved g c =
    let at = c.loop-row in
    let row = c.in-Some.row in
    let test = is_held (map g.P.Package.seen c.args.teller.now.boxes.now.items) in
    record {
      held = c.in_ok-take.ensures.held ∙ ap (λ l. l ++ filter test (row ∷ [])) at.invariant.held ∙ sym (filter-append test at.yielded (row ∷ []));
      others = c.in_ok-take.ensures.others ∙ ap (λ l. l ++ filter (λ r. not (test r)) (row ∷ [])) at.invariant.others ∙ sym (filter-append (λ r. not (test r)) at.yielded (row ∷ []));
    }
