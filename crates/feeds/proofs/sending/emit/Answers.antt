use Rattle.std.proofs.Common.{[], ◌++◌, refl, inl}
use Rattle.feeds.specs.Emitted.{writer_seen}
use Rattle.feeds.proofs.Emitting.{one, running_first, running_as, running_end, running_out, running_done, sent_none, sent_more, flushed_more, none_held_more}
use Rattle.feeds.proofs.sending.emit.Goals as goal

pub loop-init : goal.loop-init
loop-init g c = record {
  log = [];
  running = running_first c.args.taker.now c.args.workers _ _ c.requires.workers c.requires.none_ended;
  sent = sent_none _;
  flushed = λ none. inl refl;
  none_held = refl;
}

pub returns-then-left-eq0-clause-ended : goal.returns-then-left-eq0-clause-ended
returns-then-left-eq0-clause-ended g c = running_done c.loop.invariant.running c.if-left-eq0.true

pub returns-then-left-eq0-clause-emitted : goal.returns-then-left-eq0-clause-emitted
returns-then-left-eq0-clause-emitted g c =
    let at = c.loop.invariant in
    (at.log, record { met = at.running.met; none_held = at.none_held; taken = at.sent.taken; wire_failures = at.sent.failures }, at.flushed)

pub loop-preserved-in-Out : goal.loop-preserved-in-Out
loop-preserved-in-Out g c =
    let at = c.in-Out in let put = c.put_out-fate.ensures in
    rw c.add.ensures (record {
      log = c.loop.invariant.log ++ one at.out c.put_out-fate.result;
      running = running_out (running_as c.loop.invariant.running c.loop.taker c.next_out.new.left refl at.ensures.2) c.next_out.new.taker at.ensures.0 at.out
          c.put_out-fate.result (g.W.Wire.given c.put_out-fate.new.wire) (writer_seen g.F.Write.contents c.put_out-fate.new.sink)
          at.ensures.1 put.fate put.given put.failures put.writes;
      sent = sent_more c.loop.invariant.sent at.out c.put_out-fate.result put.taken put.wire_failures;
      flushed = flushed_more (λ s. s.is_flushed) _ _ _ at.out c.put_out-fate.result c.loop.invariant.log put.fate c.loop.invariant.flushed put.flushed put.stays;
      none_held = none_held_more c.loop.invariant.log at.out c.put_out-fate.result c.loop.invariant.none_held put.not_held;
    })

pub loop-preserved-in-Ended : goal.loop-preserved-in-Ended
loop-preserved-in-Ended g c =
    let at = c.in-Ended.ensures in record {
      log = c.loop.invariant.log;
      running = running_end c.loop.invariant.running c.next_out.new.taker c.next_out.new.left at.0 at.1 at.2;
      sent = c.loop.invariant.sent;
      flushed = c.loop.invariant.flushed;
      none_held = c.loop.invariant.none_held;
    }

pub loop-preserved : goal.loop-preserved
loop-preserved g c =
    let at = c.in-Nothing.ensures in record {
      log = c.loop.invariant.log;
      running = running_as c.loop.invariant.running c.next_out.new.taker c.next_out.new.left at.0 at.1;
      sent = c.loop.invariant.sent;
      flushed = c.loop.invariant.flushed;
      none_held = c.loop.invariant.none_held;
    }
