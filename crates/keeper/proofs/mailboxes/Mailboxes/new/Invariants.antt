use Rattle.std.proofs.Common.{◌≡◌, ◌++◌}
use Rattle.std.specs.Vec.Iter.{into_iter_items}
use Rattle.keeper.specs.Told.{rows_of}
use Rattle.keeper.proofs.mailboxes.Mailboxes.new.Given as goal

abbrev pub invariant-loop-change : goal.invariant-loop-change
invariant-loop-change l = record {
  whole : l.yielded ++ into_iter_items l.change-iterator ≡ l.fn.changes.items;
  held : l.mailboxes ≡ rows_of l.yielded;
}
