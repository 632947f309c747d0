use Rattle.std.proofs.Common.{◌≡◌, List, ℕ, take}
use Rattle.indexmap.specs.IndexMap.{get_by_text}
use Rattle.service.specs.Owners.{AreNoted, IsOwned}
use Rattle.service.proofs.owners.Owners.note_all.Given as goal

abbrev pub invariant-loop-out : goal.invariant-loop-out
invariant-loop-out l = record {
  noted : (t : List ℕ) → AreNoted t l.fn.self.second l.user (take l.out-index l.outs) (get_by_text l.fn.self.dialogs t) (get_by_text l.self.dialogs t);
  owned : (t : List ℕ) → IsOwned t l.user (take l.out-index l.outs) (get_by_text l.fn.self.dialogs t) (get_by_text l.self.dialogs t);
  passed : l.self.passed ≡ l.fn.self.passed;
  second : l.self.second ≡ l.fn.self.second;
}
