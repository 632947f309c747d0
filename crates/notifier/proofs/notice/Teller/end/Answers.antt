use Rattle.notifier_model.specs.Rows.{ends}
use Rattle.notifier.specs.Tellers.{telling}
use Rattle.notifier.specs.Told.{FollowsRule}
use Rattle.notifier.proofs.Renewal.{if_is, end_goes}
use Rattle.notifier.proofs.notice.Teller.end.Goals as goal

pub returns : goal.returns
returns g c =
    let t = telling g.P.Package.seen c.args.self.now in
    if_is (FollowsRule (ends t c.args.reason) c.args.row) c.finishes.result _ c.finishes.ensures
    (end_goes t c.args.row c.args.reason c.end-usage.result c.end-usage.ensures)
