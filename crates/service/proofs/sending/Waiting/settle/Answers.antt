use Rattle.std.proofs.Common.{refl, ap, sym, ◌∙◌}
use Rattle.std.specs.Prelude.{drop}
use Rattle.service.proofs.Keeping.{kept_one, kept_same, first_of, none_first}
use Rattle.service.proofs.Releasing.{fewer_same, fewer_more}
use Rattle.service.proofs.sending.Waiting.settle.Goals as goal

pub loop-put-init : goal.loop-put-init
loop-put-init g c = record { kept = λ s rows acts is. is; fewer = fewer_same _ }

pub loop-put-preserved : goal.loop-put-preserved
loop-put-preserved g c = record {
  kept = λ s rows acts is.
      kept_one c.loop-put.self c.keep.new.self c.in-Some.put (drop 1 c.loop-put.self.burst.items) (first_of _ _ c.in-Some.ensures.value)
      (ap (λ b. b.items) (c.keep.ensures.burst ∙ c.in-Some.ensures.items)) c.keep.ensures.kept c.keep.ensures.seen (c.loop-put.invariant.kept s rows acts is);
  fewer = fewer_more _ _ _ c.loop-put.invariant.fewer c.keep.ensures.fewer;
}

pub returns-clause-none : goal.returns-clause-none
returns-clause-none g c = ap (λ b. b.items) c.in_default.ensures.items ∙ ap (drop 1) (none_first _ c.in_default.ensures.value)

pub returns-clause-kept : goal.returns-clause-kept
returns-clause-kept g c = λ s rows acts is.
    let none = none_first c.loop-put.self.burst.items c.in_default.ensures.value in
    kept_same c.loop-put.self _ (returns-clause-none g c ∙ sym none) refl refl (c.loop-put.invariant.kept s rows acts is)

pub returns-clause-fewer : goal.returns-clause-fewer
returns-clause-fewer g c = c.loop-put.invariant.fewer
