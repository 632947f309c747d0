use Rattle.std.proofs.Common.{refl, subst}
use Rattle.notifier_model.specs.declared.event.Event.{Event}
use Rattle.crew.specs.Ports.{SendsAt}
use Rattle.crew.proofs.Sending.{sent_more}
use Rattle.crew.proofs.port.call_all.Goals as goal

pub loop-at-preserved : goal.loop-at-preserved
loop-at-preserved g c =
    sent_more _ c.loop-at.at _ _ _ _ c.loop-at.invariant c.loop-at-test.true refl
    (subst (λ (e : Event). SendsAt c.loop-at.senders c.loop-at.at e c.send_to.new.senders) c.event.ensures c.in_default.ensures)
