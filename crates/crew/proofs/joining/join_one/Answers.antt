use Rattle.crew.proofs.Reporting.{reported}
use Rattle.crew.proofs.joining.join_one.Goals as goal

pub returns-clause-report : goal.returns-clause-report
returns-clause-report g c = reported _ c.args.taker.now c.join-receiver.result c.requires c.join-receiver.ensures c.settle.ensures.took
