use Rattle.std.proofs.Common.{◌-◌, arith}
use Rattle.crew.proofs.Loops.{took_as, from_same, draining_event, draining_end, drained, not_drained}
use Rattle.crew.proofs.working.drain.Goals as goal

pub returns-then-left-eq0-clause-ended : goal.returns-then-left-eq0-clause-ended
returns-then-left-eq0-clause-ended g c = drained c.loop.receiver c.loop.left c.loop.invariant c.if-left-eq0.true

pub returns-in_default-clause-ended : goal.returns-in_default-clause-ended
returns-in_default-clause-ended g c = not_drained c.loop.receiver c.take.new.self c.loop.left c.loop.invariant c.in_default.ensures c.if-left-eq0.false

pub loop-preserved-in-Ended : goal.loop-preserved-in-Ended
loop-preserved-in-Ended g c =
    let some = c.if-left-eq0.false in
    draining_end c.loop.receiver c.take.new.self c.loop.left (c.loop.left - 1) _ c.loop.invariant (took_as _ _ _ _ c.in-Ended.is c.in-Ok.ensures) (omega arith)

pub loop-preserved : goal.loop-preserved
loop-preserved g c = draining_event c.loop.receiver c.take.new.self c.loop.left _ c.loop.invariant (took_as _ _ _ _ c.in-Event.is c.in-Ok.ensures)

pub returns-in_default-clause-among : goal.returns-in_default-clause-among
returns-in_default-clause-among g c = λ all. from_same _ c.loop.receiver c.take.new.self c.in_default.ensures (c.loop.invariant.among all)
