use Rattle.std.proofs.Common.{rules, refl, ◌∷◌, ◌++◌, [], sym, ap, ◌∙◌, append_assoc}
use Rattle.std.specs.Vec.Iter.{into_iter_items}
use Rattle.service.specs.Sending.{kept_after}
use Rattle.service.proofs.Keeping.{went_out_more}
use Rattle.service.specs.Releasing.{waits}
use Rattle.service.proofs.Releasing.{fewer_same, fewer_more}
use Rattle.service.proofs.sending.Waiting.keep_again.Goals as goal

pub loop-out-init : goal.loop-out-init
loop-out-init g c = record { whole = search rules; kept = refl; burst = refl; fewer = fewer_same (waits c.args.self.now.contacts) }

pub loop-out-preserved : goal.loop-out-preserved
loop-out-preserved g c =
    let was = c.loop-out.invariant in let one = c.take_up.ensures in let done = c.loop-out.yielded in let o = c.in-Some.out in record {
      whole = append_assoc done (o ∷ []) (into_iter_items c.next.new.self) ∙ (ap (λ l. done ++ l) (sym (c.in-Some.ensures.steps.0)) ∙ was.whole);
      kept = one.kept ∙ ap (kept_after 0 o) was.kept ∙ sym (went_out_more done o _);
      burst = one.burst ∙ was.burst;
      fewer = fewer_more _ _ _ was.fewer one.fewer;
    }
