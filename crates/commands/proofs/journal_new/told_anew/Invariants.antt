use Rattle.std.proofs.Common.{◌≡◌, map}
use Rattle.std.specs.List.{range_with_len}
use Rattle.arguments.specs.Setup.{dealt_names}
use Rattle.resumption.specs.Told.{told_with}
use Rattle.commands.proofs.journal_new.told_anew.Given as goal

abbrev pub invariant-loop-worker : goal.invariant-loop-worker
invariant-loop-worker l =
    l.told.items ≡ map (λ worker. told_with (dealt_names l.wish.workers worker l.wish.mailboxes.now) l.changes) (range_with_len 0 l.worker)
