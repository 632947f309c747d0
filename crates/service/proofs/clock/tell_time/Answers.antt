use Rattle.std.proofs.Common.{refl, ◌∙◌}
use Rattle.notifier_model.specs.declared.event.Event.TheVariants as event
use Rattle.service.proofs.Ticking.{ticking_none, ticking_more, ticking_failed, told_gone}
use Rattle.service.proofs.clock.tell_time.Goals as goal

pub loop-init : goal.loop-init
loop-init g c = record { still_open = c.requires.still_open; seats = refl; ticking = ticking_none c.args.stopwatch.now.tick c.args.port.now; failures = refl }

pub loop-preserved-in-Some-take : goal.loop-preserved-in-Some-take
loop-preserved-in-Some-take g c =
    let sent = c.if-not-send_event.ensures.sent in record {
      still_open = sent.still_open ∙ c.loop.invariant.still_open;
      seats = c.send_event.ensures.seats ∙ c.loop.invariant.seats;
      ticking = ticking_failed c.loop.invariant.ticking c.send_event.new.port c.in-Some-take.failed c.in-Some-take.ensures sent;
      failures = c.loop.invariant.failures;
    }

pub returns-then-not-send_event-clause-ticks : goal.returns-then-not-send_event-clause-ticks
returns-then-not-send_event-clause-ticks g c =
    told_gone c.loop.invariant.ticking c.send_event.new.port (event.Progress c.in-Some-take.failed) c.in-Some-take.ensures c.if-not-send_event.ensures.sent

pub returns-then-not-send_event-2-clause-ticks : goal.returns-then-not-send_event-2-clause-ticks
returns-then-not-send_event-2-clause-ticks g c =
    told_gone c.loop.invariant.ticking c.send_event-in-loop.new.port (event.Tick c.saturating_add-now.result) c.if-now-second.false c.if-not-send_event-2.ensures.sent

pub loop-preserved : goal.loop-preserved
loop-preserved g c =
    let sent = c.if-not-send_event-2.ensures.sent in record {
      still_open = sent.still_open ∙ c.loop.invariant.still_open;
      seats = c.send_event-in-loop.ensures.seats ∙ c.loop.invariant.seats;
      ticking = ticking_more c.loop.invariant.ticking c.send_event-in-loop.new.port c.saturating_add-now.result c.if-now-second.false sent;
      failures = c.in-Some-look.ensures ∙ c.loop.invariant.failures;
    }
