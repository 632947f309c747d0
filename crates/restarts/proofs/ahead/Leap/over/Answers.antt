use Rattle.std.proofs.Common.{◌∙◌, ◌++◌, ◌∷◌, [], sym, ap}
use Rattle.restarts.specs.Ahead.{all_ahead, left_out}
use Rattle.restarts.proofs.Leaps.{ahead_more, left_more}
use Rattle.restarts.proofs.ahead.Leap.over.Goals as goal

pub loop-row-preserved : goal.loop-row-preserved
loop-row-preserved c =
    let at = c.loop-row in
    let row = c.in-Some.row in
    record {
      ahead = c.in_ok-take.ensures.ahead ∙ ap (λ l. l ++ all_ahead (row ∷ [])) at.invariant.ahead ∙ sym (ahead_more at.yielded row);
      left_out = c.in_ok-take.ensures.left_out ∙ ap (λ l. l ++ left_out (row ∷ [])) at.invariant.left_out ∙ sym (left_more at.yielded row);
    }
