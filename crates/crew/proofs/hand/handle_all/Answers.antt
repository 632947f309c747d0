use Rattle.std.proofs.Common.{◌-◌, refl, ◌∙◌, arith}
use Rattle.notifier.specs.Held.{seen_by}
use Rattle.crew.proofs.Loops.{took_as, running_first, running_event, running_end, finished, deserted, full, from_same, among_event, left_event}
use Rattle.crew.proofs.hand.handle_all.Goals as goal

pub loop-init : goal.loop-init
loop-init g c = record {
  running = running_first (seen_by g.P.Package.seen c.args.hand.now.desk) c.args.receiver.now c.args.hand.now.poster c.ports-left.result _ _ c.requires.taken c.requires.posted c.requires.counts c.ports-left.ensures;
  stop = refl;
}

pub returns-then-left-eq0-clause-halted : goal.returns-then-left-eq0-clause-halted
returns-then-left-eq0-clause-halted g c = finished c.loop.receiver c.loop.hand.poster _ _ _ (seen_by g.P.Package.seen c.loop.hand.desk) c.loop.invariant.running c.if-left-eq0.true

pub returns-in_default-clause-halted : goal.returns-in_default-clause-halted
returns-in_default-clause-halted g c = deserted c.loop.receiver c.loop.hand.poster _ _ _ (seen_by g.P.Package.seen c.loop.hand.desk) c.loop.invariant.running c.take.new.self c.in_default.ensures c.if-left-eq0.false

pub loop-preserved-in-Ended : goal.loop-preserved-in-Ended
loop-preserved-in-Ended g c =
    let some = c.if-left-eq0.false in record {
      running = running_end c.loop.receiver c.take.new.self c.loop.hand.poster c.loop.left (c.loop.left - 1) _ _ _ (seen_by g.P.Package.seen c.loop.hand.desk) c.loop.invariant.running (took_as _ _ _ _ c.in-Ended.is c.in-Ok.ensures) (omega arith);
      stop = c.loop.invariant.stop;
    }

pub returns-in_default-handle-clause-left : goal.returns-in_default-handle-clause-left
returns-in_default-handle-clause-left g c =
    left_event c.loop.receiver c.loop.hand.poster _ _ _ (seen_by g.P.Package.seen c.loop.hand.desk) c.loop.invariant.running c.take.new.self _ (took_as _ _ _ _ c.in-Event.is c.in-Ok.ensures)

pub returns-in_default-handle-clause-halted : goal.returns-in_default-handle-clause-halted
returns-in_default-handle-clause-halted g c =
    full c.loop.receiver c.loop.hand.poster _ _ _ (seen_by g.P.Package.seen c.loop.hand.desk) c.loop.invariant.running c.take.new.self c.handle.new.self.poster _ _ _ (took_as _ _ _ _ c.in-Event.is c.in-Ok.ensures) c.in_default-handle.ensures.err

pub loop-preserved : goal.loop-preserved
loop-preserved g c = record {
  running = running_event c.loop.receiver c.take.new.self c.loop.hand.poster c.handle.new.self.poster _ _ _ _ _ (seen_by g.P.Package.seen c.loop.hand.desk) (seen_by g.P.Package.seen c.handle.new.self.desk) _ c.loop.invariant.running
      (took_as _ _ _ _ c.in-Event.is c.in-Ok.ensures) c.handle.ensures.same c.in-Ok-handle.ensures.ok c.in-Ok-handle.ensures.counted;
  stop = c.handle.ensures.stop ∙ c.loop.invariant.stop;
}

pub returns-in_default-clause-among : goal.returns-in_default-clause-among
returns-in_default-clause-among g c = from_same _ c.loop.receiver c.take.new.self c.in_default.ensures c.loop.invariant.running.among

pub returns-in_default-handle-clause-among : goal.returns-in_default-handle-clause-among
returns-in_default-handle-clause-among g c =
    among_event c.loop.receiver c.loop.hand.poster _ _ _ (seen_by g.P.Package.seen c.loop.hand.desk) c.loop.invariant.running c.take.new.self _ (took_as _ _ _ _ c.in-Event.is c.in-Ok.ensures)

pub returns-then-left-eq0-clause-stop : goal.returns-then-left-eq0-clause-stop
returns-then-left-eq0-clause-stop g c = c.loop.invariant.stop

pub returns-in_default-clause-stop : goal.returns-in_default-clause-stop
returns-in_default-clause-stop g c = c.loop.invariant.stop

pub returns-in_default-handle-clause-stop : goal.returns-in_default-handle-clause-stop
returns-in_default-handle-clause-stop g c = c.handle.ensures.stop ∙ c.loop.invariant.stop
