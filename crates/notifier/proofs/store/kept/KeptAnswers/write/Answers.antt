use Rattle.std.proofs.Common.{◌≡◌, ◌∷◌, ◌++◌, ◌<◌, ◌^◌, length, subst, arith}
use Rattle.circular_buffer.specs.Buffer.{Buffer}
use Rattle.notifier_model.specs.declared.row.Kept.{Kept}
use Rattle.snapshots.specs.Books.{kept_text, IsKept}
use Rattle.snapshots.specs.Forms.{list_text, AreAll}
use Rattle.notifier.proofs.Written.{kept_more, kept_more_fit, kept_all, kept_all_fit}
use Rattle.notifier.proofs.store.kept.KeptAnswers.write.Goals as goal

pub loop-kept-preserved : goal.loop-kept-preserved
loop-kept-preserved c =
    let at = c.loop-kept in
    let steps : at.kept-iterator ≡ c.in-Some.kept.now ∷ c.next.new.self = c.in-Some.ensures.steps in
    record {
      text = kept_more at.out.items c.write.new.out.items _ at.kept-iterator c.next.new.self c.in-Some.kept.now steps at.invariant.text c.in_ok-write.ensures.text;
      fit = kept_more_fit at.out.items c.write.new.out.items at.out.items at.kept-iterator c.next.new.self c.in-Some.kept.now steps _ at.invariant.fit c.in_ok-write.ensures.fits;
    }

pub returns-clause-text : goal.returns-clause-text
returns-clause-text c =
    let at = c.loop-kept in
    let ring = c.self.inside.ring in
    let into = c.into_iter-kept-iterator in
    subst (λ (r : Buffer Kept). at.out.items ≡ c.args.out.now.items ++ list_text kept_text r.items) c.self.view_is
    (kept_all c.args.out.now.items c.put.new.out.items at.out.items at.kept-iterator into.result ring.items c.len.result
    c.in-None.ensures.steps.0 into.ensures.into_iter_gives.0 at.invariant.text c.in_ok-put.ensures c.len.ensures.len)

pub returns-clause-fit : goal.returns-clause-fit
returns-clause-fit c =
    let at = c.loop-kept in
    let ring = c.self.inside.ring in
    let into = c.into_iter-kept-iterator in
    let few : length ring.items < 2 ^ 64 = omega (arith, c.len.ensures.len, c.len.ensures.within.0, c.len.ensures.within.1) in
    subst (λ (r : Buffer Kept). AreAll IsKept r.items) c.self.view_is (
      few,
      kept_all_fit c.args.out.now.items c.put.new.out.items at.out.items at.kept-iterator into.result ring.items c.len.result
          c.in-None.ensures.steps.0 into.ensures.into_iter_gives.0 at.invariant.fit,
    )
