use Rattle.std.proofs.Common.{◌-◌, arith}
use Rattle.crew.proofs.Keeping.{taking_first, taking_out, taking_end, all_taken, took_as}
use Rattle.examples_crew.proofs.running.gather.Goals as goal

pub loop-init : goal.loop-init
loop-init g c = taking_first c.args.taker.now c.args.workers c.requires.none c.requires.workers

pub returns-then-left-eq0-clause-ended : goal.returns-then-left-eq0-clause-ended
returns-then-left-eq0-clause-ended g c = all_taken c.args.taker.now c.loop.taker c.loop.left c.loop.invariant c.if-left-eq0.true

pub loop-preserved-in-Some-Ended : goal.loop-preserved-in-Some-Ended
loop-preserved-in-Some-Ended g c =
    let some = c.if-left-eq0.false in let at = c.in-Some-Ended in
    taking_end c.args.taker.now c.loop.taker c.take.new.self c.loop.left (c.loop.left - 1) _ c.loop.invariant (took_as _ _ _ _ at.field-0-is at.ensures) (omega arith)

pub loop-preserved-in-Some-Out : goal.loop-preserved-in-Some-Out
loop-preserved-in-Some-Out g c =
    let at = c.in-Some-Out in taking_out c.args.taker.now c.loop.taker c.take.new.self c.loop.left _ _ c.loop.invariant (took_as _ _ _ _ at.field-0-is at.ensures)
