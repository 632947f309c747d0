use Rattle.std.proofs.Common.{map}
use Rattle.notifier.specs.Held.{seen_by}
use Rattle.commands.proofs.Started.{if_ok}
use Rattle.commands.proofs.GoneOn.{there_on, there_anew}
use Rattle.commands.proofs.journal_start.start_there.Goals as goal

pub returns-in-Some : goal.returns-in-Some
returns-in-Some g c =
    let order = c.in_ok-order.order in let of = c.in_ok-order.ensures in
    if_ok c.go_on.result c.go_on.ensures
    (λ s gone. there_on c.args.plan.now order.plan.now c.args.local order.work (map (seen_by g.P.Package.seen) s.desks.items) s.begins of.plan of.work
    order.terms order.header _ of.terms of.header gone)

pub returns-in-None : goal.returns-in-None
returns-in-None g c =
    let order = c.in_ok-order.order in let of = c.in_ok-order.ensures in
    if_ok c.begin_anew.result c.begin_anew.ensures
    (λ s new. there_anew c.args.plan.now order.plan.now c.args.local order.work (map (seen_by g.P.Package.seen) s.desks.items) s.begins of.plan of.work new)
