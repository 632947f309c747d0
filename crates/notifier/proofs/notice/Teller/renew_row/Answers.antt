use Rattle.notifier_model.specs.Rows.{renewed}
use Rattle.notifier.specs.Tellers.{telling}
use Rattle.notifier.specs.Told.{FollowsRule}
use Rattle.notifier.proofs.Renewal.{if_is, renewal_stays, renewal_goes}
use Rattle.notifier.proofs.notice.Teller.renew_row.Goals as goal

pub returns-in-Live : goal.returns-in-Live
returns-in-Live g c =
    let t = telling g.P.Package.seen c.args.self.now in
    if_is (FollowsRule (renewed t c.args.incoming.now.source c.args.incoming.now.request.now) c.args.row) c.goes_on.result _ c.goes_on.ensures
    (renewal_stays t c.args.row c.args.incoming.now.source c.args.incoming.now.request.now c.in_ok-next.next c.in-Live.sub c.in-Live.notice c.in_ok-next.ensures c.in-Live.is)

pub returns-in-Over : goal.returns-in-Over
returns-in-Over g c =
    let t = telling g.P.Package.seen c.args.self.now in
    if_is (FollowsRule (renewed t c.args.incoming.now.source c.args.incoming.now.request.now) c.args.row) c.finishes.result _ c.finishes.ensures
    (renewal_goes t c.args.row c.args.incoming.now.source c.args.incoming.now.request.now c.in_ok-next.next c.in-Over.usage c.in-Over.want c.in-Over.notice c.in_ok-next.ensures c.in-Over.is)
