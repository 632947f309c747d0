use Rattle.crew.proofs.Grown.{handled_outs}
use Rattle.crew.proofs.shared.SharedDesk.handle.Goals as goal

pub returns : goal.returns
returns g c = handled_outs (λ outs. outs.items) _ _ _ _ c.args.event _ c.handle.result c.handle.ensures.ran c.handle.ensures.spent c.handle.ensures.ok
