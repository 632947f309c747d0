use Rattle.std.proofs.Common.{◌≡◌, ◌∙◌, Some, sym, ap}
use Rattle.service.proofs.datagrams.refuse.Goals as goal

pub returns-in-Some-clause-refused : goal.returns-in-Some-clause-refused
returns-in-Some-clause-refused g c =
    let same : c.args.refusal ≡ Some c.as_slice.result.now = c.in-Some.is ∙ ap Some (sym c.as_slice.ensures) in rw same c.send_refusal.ensures.refused
