-- What goes on from one run of a service to the next.
use Rattle.std.proofs.Common.{◌≡◌, subst}
use Rattle.sip_text.specs.declared.address.Addr.{Addr}
use Rattle.arguments.specs.declared.choices.Choices.{Choices}
use Rattle.commands.specs.declared.sockets.Sockets.{Sockets}
use Rattle.commands.specs.Serving.{IsAt, AreOpen}

-- sockets that were chosen are those that other choices of the same addresses ask for
pub open_alike : (c d : Choices) (s : Sockets) → c.listen ≡ d.listen → c.control ≡ d.control → AreOpen c s → AreOpen d s
open_alike c d s listen control is = record {
  at = subst (λ (a : Addr). IsAt a s.sip.local) listen is.at;
  control = subst (λ (a : Addr). IsAt a s.lines.local) control is.control;
  refusals = is.refusals;
  outgoing = is.outgoing;
  replies = is.replies;
  sip_misses = is.sip_misses;
  line_misses = is.line_misses;
}
