use Rattle.std.proofs.Common.{◌≡◌, ◌∙◌, ◌∷◌, [], append_assoc}
use Rattle.std.specs.Vec.Iter.{into_iter_items}
use Rattle.notifier.specs.Held.{seen_by}
use Rattle.resumption.proofs.Ending.{shut_more}
use Rattle.resumption.proofs.changed.shut_all.Goals as goal

pub loop-desk-preserved : goal.loop-desk-preserved
loop-desk-preserved g c =
    let at = c.loop-desk in
    let desk = c.in-Some.desk in
    let steps : into_iter_items at.desk-iterator ≡ desk ∷ into_iter_items c.next.new.self = c.in-Some.ensures.steps.0 in
    record {
      whole = append_assoc at.yielded (desk ∷ []) _ ∙ rw (← steps) at.invariant.whole;
      outs = shut_more (seen_by g.P.Package.seen) at.yielded desk _ at.outs.items c.in_ok-more.more.items _ at.invariant.outs c.in_ok-more.ensures.outs c.in_ok-append.ensures.items;
    }
