use Rattle.std.proofs.Common.{◌≤◌, length, ap, ◌∙◌, arith}
use Rattle.std.proofs.lemmas.List.{take_all}
use Rattle.arguments.specs.Told.{told}
use Rattle.arguments.proofs.ToldBoxes.{told_more}
use Rattle.arguments.proofs.told.tell.Goals as goal

pub loop-change-preserved : goal.loop-change-preserved
loop-change-preserved g c =
    told_more c.args.changes.now c.loop-change.change-index c.change-item.result _ (g.P.Package.seen c.loop-change.mailboxes) _ c.in_ok-change.field-0
    c.loop-change-test.true c.change-item.is c.loop-change.invariant c.in_ok-change.ensures.ok

pub returns : goal.returns
returns g c =
    let changes = c.args.changes.now in
    let high : length changes ≤ c.loop-change.change-index = (let b = c.loop-change-test.false in omega arith) in
    c.loop-change.invariant
    ∙ ap (λ cs. told cs (g.P.Package.seen c.args.mailboxes.now)) (take_all c.loop-change.change-index changes high)
