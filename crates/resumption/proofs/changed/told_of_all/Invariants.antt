use Rattle.std.proofs.Common.{◌≡◌, take}
use Rattle.resumption.specs.Changed.{all_mails, most_events, most_mails}
use Rattle.resumption.proofs.changed.told_of_all.Given as goal

abbrev pub invariant-loop-worker : goal.invariant-loop-worker
invariant-loop-worker l = record {
  changes : l.changes.items ≡ all_mails (take l.worker l.keeper.workers);
  events : l.events ≡ most_events (take l.worker l.keeper.workers);
  mails : l.mails ≡ most_mails (take l.worker l.keeper.workers);
}
