use Rattle.std.proofs.Common.{map}
use Rattle.notifier.specs.Held.{seen_by}
use Rattle.commands.proofs.GoneOn.{there_anew}
use Rattle.commands.proofs.journal_start.start_with.Goals as goal

pub returns-in_ok-begin_anew-in-Err-Unfit-clause-there : goal.returns-in_ok-begin_anew-in-Err-Unfit-clause-there
returns-in_ok-begin_anew-in-Err-Unfit-clause-there g c =
    let order = c.in_ok-order-in-Err-Unfit.order in let of = c.in_ok-order-in-Err-Unfit.ensures in let s = c.in_ok-begin_anew-in-Err-Unfit.field-0 in
    there_anew c.args.plan.now order.plan.now c.args.local order.work (map (seen_by g.P.Package.seen) s.desks.items) s.begins of.plan of.work
    c.in_ok-begin_anew-in-Err-Unfit.ensures
