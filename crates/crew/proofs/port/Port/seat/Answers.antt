use Rattle.std.proofs.Common.{rules, arith, ap, sym, subst}
use Rattle.std.proofs.lemmas.Grind.{common_steps}
use Rattle.crew.specs.Ports.{PortSeats, AreUnused}
use Rattle.crew.proofs.AtHome.{same_home, seated_home}
use Rattle.crew.proofs.port.Port.seat.Goals as goal

pub invariant_of-self : goal.invariant_of-self
invariant_of-self c = (
  search rules,
  search rules,
  search rules,
  same_home c.self.inside.senders.items c.self.inside.sents.items c.self.inside.senders.items c.try_reserve.new.self.items (search rules) (search rules) c.self.invariant.3,
)

pub invariant_of-self-2 : goal.invariant_of-self-2
invariant_of-self-2 c = (
  search rules,
  grind (arith, common_steps),
  grind (arith, common_steps),
  seated_home c.self.inside.senders.items c.self.inside.sents.items c.push.new.self.items c.try_reserve.new.self.items c.args.sender
      (subst AreUnused (sym (ap (λ (p : PortSeats). p.seats) c.self.view_is)) c.requires.unsent) c.requires.new (search rules) (search rules),
)
