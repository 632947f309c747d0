use Rattle.std.proofs.Common.{◌≡◌, ◌∷◌, [], List, append_assoc, sym, ap, ◌∙◌}
use Rattle.std.specs.Vec.Iter.{into_iter_items}
use Rattle.keeper.specs.Told.{Row, held_mail}
use Rattle.keeper.proofs.Rows.{one_held}
use Rattle.keeper.proofs.mailboxes.Mailboxes.new.Goals as goal

pub loop-change-preserved : goal.loop-change-preserved
loop-change-preserved c =
    let at = c.loop-change in
    let change = c.in-Some.change in
    let steps : into_iter_items at.change-iterator ≡ change ∷ into_iter_items c.next.new.self = c.in-Some.ensures.steps.0 in
    record {
      whole = append_assoc at.yielded (change ∷ []) _ ∙ rw (← steps) at.invariant.whole;
      held = c.in_ok-hold.ensures ∙ ap (λ (rows : List Row). held_mail rows change) at.invariant.held ∙ sym (one_held at.yielded change);
    }
