use Rattle.std.proofs.Common.{◌≡◌, List, ℕ, take, None}
use Rattle.std.specs.Prelude.{if◌then◌else◌}
use Rattle.std.specs.List.{list_any}
use Rattle.indexmap.specs.IndexMap.{get_by_text}
use Rattle.service.specs.Owners.{ends}
use Rattle.service.proofs.owners.Owners.end_all.Given as goal

abbrev pub invariant-loop-out : goal.invariant-loop-out
invariant-loop-out l = record {
  ended : (t : List ℕ) → get_by_text l.self.dialogs t ≡ (if list_any (ends t) (take l.out-index l.outs) then None else get_by_text l.fn.self.dialogs t);
  passed : l.self.passed ≡ l.fn.self.passed;
  second : l.self.second ≡ l.fn.self.second;
}
