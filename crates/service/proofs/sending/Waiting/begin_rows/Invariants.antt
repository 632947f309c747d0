use Rattle.std.proofs.Common.{◌≡◌}
use Rattle.service.proofs.sending.Waiting.begin_rows.Given as goal

abbrev pub invariant-loop-one : goal.invariant-loop-one
invariant-loop-one g l = record {
  transactions : l.self.transactions ≡ l.fn.self.transactions;
  contacts : l.self.contacts ≡ l.fn.self.contacts;
  burst : l.self.burst ≡ l.fn.self.burst;
}
