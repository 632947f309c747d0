use Rattle.std.proofs.Common.{◌≡◌, ◌++◌, length}
use Rattle.std.specs.Vec.Iter.{into_iter_items}
use Rattle.journal.proofs.Chaining.{IsPart}
use Rattle.journal.proofs.chain.join_all.Given as goal

abbrev pub invariant-loop-account : goal.invariant-loop-account
invariant-loop-account l = record {
  whole : l.yielded ++ into_iter_items l.account-iterator ≡ l.fn.older.items;
  number : l.worker ≡ length l.yielded;
  part : IsPart l.fn.older.items l.fn.newer.items l.worker (into_iter_items l.account-iterator) (into_iter_items l.others) l.all.items;
}
