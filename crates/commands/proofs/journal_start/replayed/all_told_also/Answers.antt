use Rattle.std.proofs.Common.{◌≡◌, ◌∙◌, ◌∷◌, [], length, append_assoc, rules}
use Rattle.std.specs.Vec.Iter.{into_iter_items}
use Rattle.commands.proofs.Unheld.{all_also_more, many_more}
use Rattle.commands.proofs.journal_start.replayed.all_told_also.Goals as goal

pub loop-changes-preserved : goal.loop-changes-preserved
loop-changes-preserved c =
    let at = c.loop-changes in let changes = c.in-Some.changes in let kept = c.args.keeper.now.workers in
    let worker = c.in_ok-worker.worker in
    let steps : into_iter_items at.changes-iterator ≡ changes ∷ into_iter_items c.next.new.self = c.in-Some.ensures.steps.0 in
    let counted : worker ≡ length at.all.items = search rules in
    let same : worker ≡ length at.yielded = counted ∙ at.invariant.many in
    record {
      whole = append_assoc at.yielded (changes ∷ []) _ ∙ rw (← steps) at.invariant.whole;
      many = many_more at.all.items _ at.yielded _ changes at.invariant.many c.in_ok-push.ensures.items;
      told =
          all_also_more kept at.yielded changes c.in_ok-told.told _ worker at.all.items _ same c.in_ok-told.ensures.told at.invariant.told
          c.in_ok-told_also.ensures c.in_ok-push.ensures.items;
    }
