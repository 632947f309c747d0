use Rattle.std.proofs.Common.{◌≡◌, ◌++◌}
use Rattle.std.specs.Vec.Iter.{into_iter_items}
use Rattle.transactions.specs.Runs.{state_after}
use Rattle.service.specs.Sending.{calls, went_out}
use Rattle.service.specs.Releasing.{Fewer, waits}
use Rattle.service.proofs.sending.Waiting.keep_again.Given as goal

abbrev pub invariant-loop-out : goal.invariant-loop-out
invariant-loop-out g l = record {
  whole : l.yielded ++ into_iter_items l.out-iterator ≡ l.fn.unanswered.items;
  kept : l.self.transactions ≡ state_after (calls (went_out l.yielded)) l.fn.self.transactions;
  burst : l.self.burst ≡ l.fn.self.burst;
  fewer : Fewer (waits l.fn.self.contacts) (waits l.self.contacts);
}
