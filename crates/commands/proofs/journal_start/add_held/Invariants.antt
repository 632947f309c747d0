use Rattle.std.proofs.Common.{◌≡◌, ◌++◌, map, string_bytes}
use Rattle.std.specs.Vec.Iter.{into_iter_items}
use Rattle.resumption.specs.Told.{held_names}
use Rattle.commands.proofs.journal_start.add_held.Given as goal

abbrev pub invariant-loop-name : goal.invariant-loop-name
invariant-loop-name l =
    l.names.items ++ map string_bytes (into_iter_items l.name-iterator) ≡ l.fn.names.items ++ held_names l.fn.account.book.told.mail
