use Rattle.std.proofs.Common.{◌∷◌, [], refl, sym, ◌∙◌}
use Rattle.transport.specs.Wires.{datagram}
use Rattle.service.specs.Sending.{Repeated, GaveUp}
use Rattle.service.proofs.Acts.{does_repeat, does_give_up}
use Rattle.service.proofs.Rowing.{rowed_repeat, rowed_give_up}
use Rattle.service.proofs.Releasing.{fewer_same, idle_on}
use Rattle.service.proofs.sending.Waiting.repeat.Goals as goal

pub returns-then-is_over-clause-does : goal.returns-then-is_over-clause-does
returns-then-is_over-clause-does g c = (
  GaveUp c.args.now ∷ [],
  refl,
  does_give_up c.args.now c.in-Some.due.now _ _ (sym c.in-Some.ensures) c.turn.ensures.turned _ (sym c.is_over.ensures ∙ c.if-is_over.true),
  rowed_give_up c.args.now _,
  idle_on (GaveUp c.args.now) _ _ refl refl c.drop_held.ensures.fewer,
)

pub returns-clause-does : goal.returns-clause-does
returns-clause-does g c =
    let due = c.in-Some.due.now in let again = c.send_again in (
      Repeated c.args.now (datagram due.to due.bytes) again.result ∷ [],
      refl,
      does_repeat c.args.now due _ _ (sym c.in-Some.ensures) c.turn-2.ensures.turned again.result _ _ (sym c.is_over.ensures ∙ c.if-is_over.false)
          again.ensures.taken again.ensures.failures,
      rowed_repeat c.args.now (datagram due.to due.bytes) again.result _,
      idle_on (Repeated c.args.now (datagram due.to due.bytes) again.result) _ _ refl refl (fewer_same _),
    )
