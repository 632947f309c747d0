use denote.Param.Send.{sendable}
use Rattle.crew.proofs.Grown.{outs_there}
use Rattle.crew.proofs.hand.Hand.handle.Goals as goal

pub tell-requires : goal.tell-requires
tell-requires g c = (
  search (sendable, c.type_bounds.send-G),
  (search (sendable, c.type_bounds.sync-G), outs_there _ _ c.args.event c.in_ok-outs.outs.items (λ none. cc (c.in_ok-outs.ensures.spent.1 none)) c.in_ok-outs.ensures.ok),
)
