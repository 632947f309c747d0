use Rattle.std.proofs.Common.{◌∷◌, [], refl, sym, ◌∙◌}
use Rattle.transport.specs.Wires.{datagram}
use Rattle.service.specs.Sending.{Tried}
use Rattle.service.proofs.Acts.{does_try}
use Rattle.service.proofs.Releasing.{fewer_same, idle_on}
use Rattle.service.proofs.sending.Waiting.probe.Goals as goal

pub returns-clause-does : goal.returns-clause-does
returns-clause-does g c =
    let due = c.in-Some.due.now in let again = c.send_again in (
      Tried c.args.now (datagram due.to due.bytes) again.result ∷ [],
      refl,
      does_try c.args.now due _ (sym c.in-Some.ensures) again.result _ _ (sym c.is_over-is_late.ensures ∙ c.if-is_late.false)
          again.ensures.taken again.ensures.failures,
      (_, refl, refl),
      idle_on (Tried c.args.now (datagram due.to due.bytes) again.result) _ _ refl refl (fewer_same _),
    )
