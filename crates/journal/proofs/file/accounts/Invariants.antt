use Rattle.std.proofs.Common.{◌≡◌, ◌++◌, length}
use Rattle.std.specs.Vec.Iter.{into_iter_items}
use Rattle.journal.specs.Gathering.{AreAccounts}
use Rattle.journal.proofs.file.accounts.Given as goal

abbrev pub invariant-loop-known : goal.invariant-loop-known
invariant-loop-known l = record {
  whole : l.yielded ++ into_iter_items l.known-iterator ≡ l.fn.all.items;
  each : AreAccounts l.yielded l.accounts.items;
  number : l.worker ≡ length l.yielded;
}
