use Rattle.std.proofs.Common.{◌≤◌, length, arith}
use Rattle.service.proofs.Asking.{noted_next, noted_all}
use Rattle.service.proofs.asked.Asked.note_all.Goals as goal

pub loop-out-preserved : goal.loop-out-preserved
loop-out-preserved c =
    noted_next _ c.args.outs.now c.loop-out.out-index _ _ _ _ c.loop-out-test.true c.out-item.is c.loop-out.invariant c.in_ok-note_out.ensures

pub returns : goal.returns
returns c =
    let high : length c.args.outs.now ≤ c.loop-out.out-index = (let b = c.loop-out-test.false in omega arith) in
    noted_all _ c.args.outs.now c.loop-out.out-index _ _ high c.loop-out.invariant
