use denote.Exit.{no}
use denote.Param.{param, copied}
use denote.Param.Send.{sendable, param_send, arg_send}
use Rattle.examples_crew.proofs.Sent.{call_send}
use Rattle.examples_crew.proofs.desks.hear_both.Goals as goal

pub spawn-requires-send-F : goal.spawn-requires-send-F
spawn-requires-send-F g c κs within =
    param_send _ _ (arg_send _ no _ (call_send (copied 0 g.row.R) (param 1 g.row.P) g.P.Package _ (search (sendable, c.type_bounds.send-R)) (search (sendable, c.type_bounds.send-P))))
