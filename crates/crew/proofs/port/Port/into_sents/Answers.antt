use Rattle.std.proofs.Common.{ap, subst}
use Rattle.crew.specs.Ports.{PortSeats}
use Rattle.crew.specs.AtHome.{SentHome}
use Rattle.crew.proofs.port.Port.into_sents.Goals as goal

pub returns-clause-home : goal.returns-clause-home
returns-clause-home c = subst SentHome (ap (λ (p : PortSeats). p.seats) c.self.view_is) c.self.invariant.3
