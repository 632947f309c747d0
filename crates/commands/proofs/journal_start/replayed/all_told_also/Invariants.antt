use Rattle.std.proofs.Common.{◌≡◌, ◌++◌, map, length, Vec}
use Rattle.std.specs.Vec.Iter.{into_iter_items}
use Rattle.std.specs.declared.alloc.Global.{Global}
use Rattle.package.specs.Values.{MailChange}
use Rattle.commands.specs.Runs.{all_told_also}
use Rattle.commands.proofs.journal_start.replayed.all_told_also.Given as goal

abbrev pub invariant-loop-changes : goal.invariant-loop-changes
invariant-loop-changes l = record {
  whole : l.yielded ++ into_iter_items l.changes-iterator ≡ l.fn.unheld.items;
  many : length l.all.items ≡ length l.yielded;
  told : l.all.items ≡ all_told_also (map (λ (u : Vec MailChange Global). u.items) l.yielded) l.keeper.workers;
}
