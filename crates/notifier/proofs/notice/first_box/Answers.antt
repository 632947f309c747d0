-- The box at the place that the scan answers is the first of the name.
use Rattle.std.proofs.Common.{sym, ◌∙◌}
use Rattle.notifier.proofs.FirstBox.{hit, missed}
use Rattle.notifier.proofs.notice.first_box.Goals as goal

pub returns-in-None : goal.returns-in-None
returns-in-None g c =
    sym (missed g.P.Package.seen c.args.name.now c.args.boxes.now.items 0 (sym c.find_box.ensures.place ∙ c.in-None.is))

pub returns-in-Some : goal.returns-in-Some
returns-in-Some g c =
    let h = hit g.P.Package.seen c.args.name.now c.args.boxes.now.items c.in-Some.at (sym c.find_box.ensures.place ∙ c.in-Some.is) in
    sym (h.first c.index.result.now c.index.ensures)
