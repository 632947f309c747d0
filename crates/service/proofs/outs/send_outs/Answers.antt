use Rattle.std.proofs.Common.{[], ◌++◌, ◌∷◌, ◌∙◌, map, refl, ap, sym, inl}
use Rattle.queues.proofs.Ended.{ended_none}
use Rattle.feeds.specs.Emitted.{writer_seen, counted}
use Rattle.service.specs.Sending.{taking}
use Rattle.service.proofs.Acts.{does_none, does_more, does_taking, flushed_on, flushed_taking}
use Rattle.service.proofs.Departing.{ahead_first, ahead_on, ahead_took, ahead_left, ahead_done, sent_out}
use Rattle.service.specs.Keeping.{act_of}
use Rattle.service.proofs.Keeping.{state_more, settled_rows, does_behind}
use Rattle.service.proofs.Releasing.{none_held, fewer_held}
use Rattle.service.proofs.outs.send_outs.Goals as goal

pub loop-init : goal.loop-init
loop-init g c = record {
  acts = [];
  report = record { sent = 0; starts = 0; failed = 0; held = 0 };
  ahead = ahead_first c.args.outgoing.now.taker _ _ c.new-departing.result.outs.items c.new-departing.ensures.none (ended_none _ _ c.requires.none) c.args.outgoing.now.workers c.requires.workers;
  does = does_none c.args.outgoing.now.waiting.transactions _;
  flushed = λ none. inl refl;
  held = none_held _ c.requires.none_waits;
  kept = record { kept = []; all = sym (ap (λ l. map act_of l) c.requires.none_put); open_now = refl; rowed = refl };
}

pub returns-then-is_over-clause-sent : goal.returns-then-is_over-clause-sent
returns-then-is_over-clause-sent g c =
    let at = c.loop.invariant in let last = c.settle.ensures in (
      at.acts,
      at.report,
      sent_out at.ahead (c.is_empty.ensures c.if-is_empty.true) at.does at.held.so_far at.held.none_overtook,
      at.flushed,
      settled_rows (last.kept _ _ _ at.kept) last.none,
    )

pub returns-then-is_over-clause-ended : goal.returns-then-is_over-clause-ended
returns-then-is_over-clause-ended g c = ahead_done c.loop.invariant.ahead c.if-left-eq0.true

pub loop-preserved-in-Ended : goal.loop-preserved-in-Ended
loop-preserved-in-Ended g c =
    let was = c.loop.invariant in let took = c.in-Ended.ensures.taken in let tended = c.tend-has_more.ensures in let more = tended.does in record {
      acts = was.acts ++ more.0;
      report = was.report;
      ahead = ahead_took (ahead_on was.ahead more.0 _ more.1.no_outs tended.given) c.next_out.new.taker c.next_out.new.left took.0 _ took.1 took.2;
      does = does_more was.does (does_behind was.kept more.1.does);
      flushed = flushed_on (λ s. s.is_flushed) _ _ was.acts was.flushed more.0 more.1.no_outs;
      kept = more.1.kept _ _ was.acts was.kept;
      held = more.2 was.acts was.held;
    }

pub loop-preserved-in-Out : goal.loop-preserved-in-Out
loop-preserved-in-Out g c =
    let was = c.loop.invariant in let took = c.in-Out.ensures.taken in let tended = c.tend-has_more.ensures in let more = tended.does in
    let sent = c.send_on.ensures in let fate = c.send_on.result in let now = c.now.result in let out = c.in-Out.out in record {
      acts = (was.acts ++ more.0) ++ taking now out fate ∷ [];
      report = counted was.report fate;
      ahead = ahead_left (ahead_took (ahead_on was.ahead more.0 _ more.1.no_outs tended.given) c.next_out.new.taker c.next_out.new.left took.0 _ took.1 took.2)
          now out c.write.new.self.outs.items fate
          (g.W.Wire.given c.send_on.new.exit.wire)
          (writer_seen g.F.Write.contents c.send_on.new.exit.sink)
          (ap (λ q. out ∷ q.items) (sym c.write.ensures.outs))
          sent.fate sent.given sent.failures sent.writes;
      does = does_more (does_more was.does (does_behind was.kept more.1.does))
          (does_taking now out fate _ _ _ _ sent.taken sent.wire_failures (state_more (was.acts ++ more.0) (taking now out fate ∷ []) _));
      flushed = flushed_taking (λ s. s.is_flushed) _ _ (was.acts ++ more.0) (flushed_on (λ s. s.is_flushed) _ _ was.acts was.flushed more.0 more.1.no_outs)
          c.send_on.new.exit.sink now out fate sent.fate sent.flushed sent.stays;
      held = sent.held (was.acts ++ more.0) (more.2 was.acts was.held);
      kept = sent.kept _ _ (was.acts ++ more.0) (more.1.kept _ _ was.acts was.kept);
    }

pub loop-preserved : goal.loop-preserved
loop-preserved g c =
    let was = c.loop.invariant in let took = c.in-Nothing.ensures.taken in let tended = c.tend-has_more.ensures in let more = tended.does in record {
      acts = was.acts ++ more.0;
      report = was.report;
      ahead = ahead_took (ahead_on was.ahead more.0 _ more.1.no_outs tended.given) c.next_out.new.taker c.next_out.new.left took.0 _ took.1 took.2;
      does = does_more was.does (does_behind was.kept more.1.does);
      flushed = flushed_on (λ s. s.is_flushed) _ _ was.acts was.flushed more.0 more.1.no_outs;
      held = fewer_held _ _ c.settle_few.ensures.fewer (was.acts ++ more.0) (more.2 was.acts was.held);
      kept = c.settle_few.ensures.kept _ _ (was.acts ++ more.0) (more.1.kept _ _ was.acts was.kept);
    }
