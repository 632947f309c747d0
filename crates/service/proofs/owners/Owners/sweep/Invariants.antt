use Rattle.std.proofs.Common.{◌≡◌, List, ℕ}
use Rattle.indexmap.specs.IndexMap.{get_by_text}
use Rattle.service.specs.Owners.{IsSwept}
use Rattle.service.proofs.owners.Owners.sweep.Given as goal

abbrev pub invariant-loop : goal.invariant-loop
invariant-loop l = record {
  swept : (t : List ℕ) → IsSwept l.fn.self.second (get_by_text l.fn.self.dialogs t) (get_by_text l.self.dialogs t);
  passed : l.self.passed ≡ l.fn.self.passed;
  second : l.self.second ≡ l.fn.self.second;
}
