use Rattle.std.proofs.Common.{◌≡◌}
use Rattle.crew.specs.Calls.{call_event}
use Rattle.crew.specs.Ports.{sent_first}
use Rattle.crew.proofs.port.call_all.Given as goal

abbrev pub invariant-loop-at : goal.invariant-loop-at
invariant-loop-at g l = l.senders ≡ sent_first l.at (call_event l.fn.call) l.fn.senders
