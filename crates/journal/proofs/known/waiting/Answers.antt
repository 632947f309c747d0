use Rattle.std.proofs.Common.{◌≡◌, ◌∙◌, ◌+◌, ◌++◌, ◌∷◌, [], ap, sym, append_assoc}
use Rattle.std.specs.Vec.Iter.{into_iter_items}
use Rattle.journal.specs.Generations.{waiting}
use Rattle.journal.proofs.Gathering.{waiting_pushed}
use Rattle.journal.proofs.known.waiting.Goals as goal

pub loop-line-preserved : goal.loop-line-preserved
loop-line-preserved c =
    let at = c.loop-line in
    let line = c.in-Some.line in
    let steps : into_iter_items at.line-iterator ≡ line ∷ into_iter_items c.next.new.self = c.in-Some.ensures.steps.0 in
    let handled = c.args.counted + c.args.since in
    record {
      all = append_assoc at.yielded (line ∷ []) _ ∙ rw (← steps) at.invariant.all;
      so_far =
          c.in_ok-look_at.ensures
          ∙ ap (λ l. l ++ waiting handled (line ∷ [])) at.invariant.so_far
          ∙ sym (waiting_pushed handled at.yielded line);
    }
