use Rattle.std.proofs.Common.{◌≡◌, ◌++◌}
use Rattle.std.specs.Vec.Iter.{into_iter_items}
use Rattle.notifier.specs.Ledger.{IsSound}
use Rattle.notifier.specs.Resumed.{IsAbove}
use Rattle.notifier.specs.Stored.{rows_of}
use Rattle.notifier.proofs.store.Ledger.put_all.Given as goal

abbrev pub invariant-loop-row : goal.invariant-loop-row
invariant-loop-row g l = record {
  whole : l.yielded ++ into_iter_items l.row-iterator ≡ l.fn.rows.items;
  rows : rows_of l.self.rows ≡ l.yielded;
  low : IsAbove l.low l.yielded;
  sound : IsSound l.fn.place l.self;
  clock : l.self.clock ≡ l.fn.self.clock;
  next : l.self.next ≡ l.fn.self.next;
  ring : l.self.ring ≡ l.fn.self.ring;
  boxes : l.self.boxes ≡ l.fn.self.boxes;
}
