-- The change reaches the box at the place that the scan answers, which is the first of its package.
use Rattle.std.proofs.Common.{sym, ◌∙◌}
use Rattle.std.proofs.lemmas.Result.{IfOk-weaker}
use Rattle.notifier.proofs.FirstBox.{hit, missed_change}
use Rattle.notifier.proofs.notice.change_first.Goals as goal

pub returns-in-None-clause-ok : goal.returns-in-None-clause-ok
returns-in-None-clause-ok g c =
    sym (missed_change g.P.Package.seen c.event.result.now c.args.change.now (sym c.event.ensures) c.args.boxes.now.items 0 (sym c.find_box.ensures.place ∙ c.in-None.is))

pub returns-in-Some-clause-ok : goal.returns-in-Some-clause-ok
returns-in-Some-clause-ok g c =
    let h = hit g.P.Package.seen c.event.result.now c.args.boxes.now.items c.in-Some.at (sym c.find_box.ensures.place ∙ c.in-Some.is) in
    IfOk-weaker c.change.result _ _ (λ o s. h.change c.args.change.now (sym c.event.ensures) c.index_mut.result.now c.change.new.self o c.index_mut.ensures.value s) c.change.ensures.ok
