use Rattle.std.proofs.Common.{ap}
use Rattle.notifier_model.specs.Rows.{tells_change}
use Rattle.notifier.specs.Tellers.{telling}
use Rattle.notifier.specs.Told.{FollowsRule}
use Rattle.notifier.proofs.Renewal.{if_is, change_stays, change_goes}
use Rattle.notifier.proofs.notice.Teller.tell_change.Goals as goal

pub returns-in-Live : goal.returns-in-Live
returns-in-Live g c =
    let t = telling g.P.Package.seen c.args.self.now in
    if_is (FollowsRule (tells_change t c.args.is_over) c.args.row) c.goes_on.result _ c.goes_on.ensures
    (change_stays t c.args.row c.args.is_over _ c.changed-next.result c.in-Live.sub c.in-Live.notice (ap (λ w. w.to) c.want.ensures) c.changed-next.ensures c.in-Live.is)

pub returns-in-Over : goal.returns-in-Over
returns-in-Over g c =
    let t = telling g.P.Package.seen c.args.self.now in
    if_is (FollowsRule (tells_change t c.args.is_over) c.args.row) c.finishes.result _ c.finishes.ensures
    (change_goes t c.args.row c.args.is_over _ c.changed-next.result c.in-Over.usage c.in-Over.want c.in-Over.notice (ap (λ w. w.to) c.want.ensures) c.changed-next.ensures c.in-Over.is)
