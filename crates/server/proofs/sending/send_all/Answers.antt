use Rattle.std.proofs.Common.{◌≡◌, [], ◌∷◌, refl, ◌∙◌, append_assoc, rules}
use Rattle.std.specs.Vec.Iter.{into_iter_items}
use Rattle.feeds.proofs.SendingHome.{sends_none, sends_more}
use Rattle.server.proofs.Sent.{where_true}
use Rattle.server.proofs.sending.send_all.Goals as goal

pub loop-event-init : goal.loop-event-init
loop-event-init g c = record { all = search rules; still_open = c.requires.still_open; seats = refl; sent = sends_none c.args.port.now }

pub loop-event-preserved : goal.loop-event-preserved
loop-event-preserved g c =
    let at = c.loop-event in
    let event = c.in-Some.event in
    let steps : into_iter_items at.event-iterator ≡ event ∷ into_iter_items c.next.new.self = c.in-Some.ensures.steps.0 in
    let sends = where_true _ c.send_event.result c.send_event.ensures.sent c.if-not-send_event.false in
    record {
      all = append_assoc at.yielded (event ∷ []) _ ∙ rw (← steps) at.invariant.all;
      still_open = sends.still_open ∙ at.invariant.still_open;
      seats = c.send_event.ensures.seats ∙ at.invariant.seats;
      sent = sends_more c.args.port.now at.port c.send_event.new.port at.yielded (event ∷ []) at.invariant.sent sends;
    }
