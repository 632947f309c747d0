use Rattle.std.proofs.Common.{List, length}
use Rattle.transactions.specs.Machine.{State}
use Rattle.watchers.specs.Rows.{Row}
use Rattle.service.specs.Sending.{Act}
use Rattle.service.specs.Keeping.{AreKept}
use Rattle.service.specs.Releasing.{Fewer, waits}
use Rattle.service.proofs.sending.Waiting.settle.Given as goal

abbrev pub invariant-loop-put : goal.invariant-loop-put
invariant-loop-put g l = record {
  kept : (s : State) (rows : List Row) (acts : List Act) → AreKept s rows acts l.fn.self → AreKept s rows acts l.self;
  fewer : Fewer (waits l.fn.self.contacts) (waits l.self.contacts);
}

abbrev pub decreases-loop-put : goal.decreases-loop-put
decreases-loop-put g l = length l.self.burst.items
