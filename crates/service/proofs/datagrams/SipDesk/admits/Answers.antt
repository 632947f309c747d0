use Rattle.std.proofs.Common.{Some, ap, sym}
use Rattle.service.specs.Admitted.{allows}
use Rattle.service.proofs.Judging.{not_allowed, not_refused}
use Rattle.service.proofs.datagrams.SipDesk.admits.Goals as goal

pub returns-in-Allowed-clause-admits : goal.returns-in-Allowed-clause-admits
returns-in-Allowed-clause-admits g c =
    let allowed = ap allows c.in-Allowed.is in (
      Some c.in-Ok.verdict,
      (c.in-Ok.ensures.judges, c.in-Ok.ensures.behind),
      sym allowed,
      not_refused c.args.arrival.source c.in-Ok.verdict allowed (g.W.Wire.taken c.args.self.now.going) (g.W.Wire.failures c.args.self.now.going),
    )

pub returns-in_default-verdict-clause-admits : goal.returns-in_default-verdict-clause-admits
returns-in_default-verdict-clause-admits g c = (
  Some c.in-Ok.verdict,
  (c.in-Ok.ensures.judges, c.in-Ok.ensures.behind),
  sym (not_allowed c.in-Ok.verdict c.in_default-verdict.not-Allowed),
  rw c.refusal-refusal.ensures at c.refuse.ensures.refused,
)
