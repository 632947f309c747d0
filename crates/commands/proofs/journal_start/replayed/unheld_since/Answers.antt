use Rattle.std.proofs.Common.{◌≡◌, ◌∷◌, map, string_bytes}
use Rattle.std.specs.Vec.Iter.{into_iter_items}
use Rattle.resumption.specs.Told.{held_names}
use Rattle.commands.proofs.Unheld.{unheld_more}
use Rattle.commands.proofs.journal_start.replayed.unheld_since.Goals as goal

pub loop-change-preserved : goal.loop-change-preserved
loop-change-preserved c =
    let at = c.loop-change in let change = c.in-Some.change in let rest = into_iter_items c.next.new.self in
    let steps : into_iter_items at.change-iterator ≡ change ∷ rest = c.in-Some.ensures.steps.0 in
    unheld_more (held_names c.args.account.now.book.told.mail) (map string_bytes c.in_ok-held.held.keys) change at.unheld.items _ _ _ rest
    steps c.in_ok-held.ensures c.in_ok-add_unheld.ensures at.invariant
