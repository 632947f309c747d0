use Rattle.crossbeam_channel.specs.Claims.{view}
use Rattle.queues.proofs.Keeps.{takes, looks}
use Rattle.queues.proofs.Tells.{took_event, took_end, took_nothing}
use Rattle.queues.proofs.many_to_one.Receiver.take_or_sleep.Goals as goal
use Rattle.queues.proofs.many_to_one.Receiver.take_or_sleep.Goals.{in-Ok+in-Value, in-Ok+in-End, in-Err}

pub recv_as-requires-clause-rule : goal.recv_as-requires-clause-rule
recv_as-requires-clause-rule g c = (takes _ _ c.self.invariant.1, looks _ _ c.self.invariant.1)

pub returns : goal.returns
returns g c =
    let v = view c.self.inside.seat in
    let w' = view c.recv_as.new.pass in
    elim c.match-recv_as.branch [
      | in-Ok+in-Value w ↦ rw w.result-is (took_event _ _ v w' w.in-Ok.field-0 _ _ c.self.view_is c.self.invariant.2 w.in-Value.is w.in-Ok.ensures.rule)
      | in-Ok+in-End w ↦ rw w.result-is (took_end _ _ v w' w.in-Ok.field-0 _ c.self.view_is c.self.invariant.2 w.in-End.is w.in-Ok.ensures.rule)
      | in-Err w ↦ rw w.result-is (took_nothing _ _ v w' _ w.in-Err.ensures.rule.0 c.self.view_is)
    ]
