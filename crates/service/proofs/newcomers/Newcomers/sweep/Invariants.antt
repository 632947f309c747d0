use Rattle.std.proofs.Common.{◌≤◌, ℕ, List, length}
use Rattle.service.specs.Newcomers.{IsSwept, passed_when}
use Rattle.service.proofs.newcomers.Newcomers.sweep.Given as goal

abbrev pub invariant-loop : goal.invariant-loop
invariant-loop l = record {
  swept : (n : List ℕ) → IsSwept (passed_when l.fn.self.passed n) (passed_when l.self.passed n);
  fewer : length l.self.order.items ≤ length l.fn.self.order.items;
}
