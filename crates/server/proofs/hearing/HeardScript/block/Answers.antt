use Rattle.std.proofs.Common.{Some, refl, sym}
use Rattle.notifier_model.specs.declared.event.Event.TheVariants as event
use Rattle.server.proofs.Heard.{heard-event, heard-datagram}
use Rattle.server.proofs.hearing.HeardScript.block.Goals as goal

pub returns-in_ok-datagram-in-Sip : goal.returns-in_ok-datagram-in-Sip
returns-in_ok-datagram-in-Sip c = λ blocks heard.
    rw c.in-Sip.is (heard-datagram blocks c.args.self.now _ c.in-Sip.source c.in-Sip.octets (rw c.as_slice.ensures at c.in_ok-datagram-in-Sip.ensures.events) (rw c.as_slice.ensures at c.in_ok-datagram-in-Sip.ensures.unread) c.in_ok-datagram-in-Sip.ensures.datagrams heard)

pub returns-in_ok-event-in-Change : goal.returns-in_ok-event-in-Change
returns-in_ok-event-in-Change c = λ blocks heard.
    rw c.in-Change.is (heard-event blocks c.args.self.now _ _ c.of.result (λ readings. sym c.of.ensures) refl c.in_ok-event-in-Change.ensures.events c.in_ok-event-in-Change.ensures.unread c.in_ok-event-in-Change.ensures.datagrams heard)

pub returns-in_ok-event-in-Tick : goal.returns-in_ok-event-in-Tick
returns-in_ok-event-in-Tick c = λ blocks heard.
    rw c.in-Tick.is (heard-event blocks c.args.self.now _ _ (Some (event.Tick c.in-Tick.time)) (λ readings. refl) refl c.in_ok-event-in-Tick.ensures.events c.in_ok-event-in-Tick.ensures.unread c.in_ok-event-in-Tick.ensures.datagrams heard)
