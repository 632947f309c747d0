use Rattle.resumption.specs.Told.{begins}
use Rattle.resumption.proofs.Lists.{one_more}
use Rattle.resumption.proofs.Telling.{begins-append}
use Rattle.resumption.proofs.told.add_begins.Goals as goal

pub loop-row-preserved : goal.loop-row-preserved
loop-row-preserved c =
    one_more begins begins-append _ c.loop-row.row-index c.row-item.result c.args.changes.now.items c.loop-row.changes.items _
    c.loop-row-test.true c.row-item.is c.loop-row.invariant c.in_ok-add_begin.ensures
