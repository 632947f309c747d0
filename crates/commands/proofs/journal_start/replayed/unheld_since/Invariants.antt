use Rattle.std.proofs.Common.{◌≡◌, ◌++◌}
use Rattle.std.specs.List.{flat_map}
use Rattle.std.specs.Vec.Iter.{into_iter_items}
use Rattle.resumption.specs.Told.{held_names}
use Rattle.commands.specs.Runs.{unheld, unheld_since}
use Rattle.commands.proofs.journal_start.replayed.unheld_since.Given as goal

abbrev pub invariant-loop-change : goal.invariant-loop-change
invariant-loop-change l =
    let names = held_names l.fn.account.book.told.mail in
    l.unheld.items ++ flat_map (unheld names) (into_iter_items l.change-iterator) ≡ unheld_since l.fn.account
