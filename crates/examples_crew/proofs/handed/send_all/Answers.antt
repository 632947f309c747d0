use Rattle.std.proofs.Common.{refl, ◌∙◌}
use Rattle.examples_crew.proofs.TwoSenders.{where_true}
use Rattle.examples_crew.proofs.handed.send_all.Goals as goal

pub loop-event-init : goal.loop-event-init
loop-event-init g c = record { still_open = c.requires; seats = refl }

pub loop-event-preserved : goal.loop-event-preserved
loop-event-preserved g c =
    let at = c.loop-event in
    let sends = where_true _ c.send_event.result c.send_event.ensures.sent c.if-not-send_event.false in
    record { still_open = sends.still_open ∙ at.invariant.still_open; seats = c.send_event.ensures.seats ∙ at.invariant.seats }
