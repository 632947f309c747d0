use Rattle.std.proofs.Common.{take}
use Rattle.resumption.proofs.Lists.{taken_more}
use Rattle.commands.proofs.Begun.{second_more}
use Rattle.commands.proofs.journal_start.volume.last_second.Goals as goal

pub loop-desk-preserved : goal.loop-desk-preserved
loop-desk-preserved g c =
    let desks = c.args.desks.now in let i = c.loop-desk.desk-index in let desk = c.desk-item.result in
    rw (c.max-second.ensures, taken_more desks i desk c.loop-desk-test.true c.desk-item.is)
    (second_more g.P.Package.seen (take i desks) desk c.loop-desk.second c.clock.result c.loop-desk.invariant c.clock.ensures)
