use Rattle.std.proofs.Common.{◌++◌, ◌∷◌, [], refl, ◌∙◌}
use Rattle.std.specs.Prelude.{string_bytes}
use Rattle.service.specs.Sending.{Gone}
use Rattle.service.proofs.Acts.{does_none, does_more, does_gone, none_more}
use Rattle.service.proofs.Rowing.{rowed_more, rowed_gone}
use Rattle.service.proofs.Releasing.{fewer_same, fewer_on, on_more, idle_on}
use Rattle.service.proofs.sending.Waiting.end_all.Goals as goal

pub loop-tag-init : goal.loop-tag-init
loop-tag-init g c = record { acts = []; none = refl; does = λ wire. does_none _ wire; rowed = refl; burst = refl; holds = fewer_on _ _ (fewer_same _) }

pub loop-tag-preserved : goal.loop-tag-preserved
loop-tag-preserved g c =
    let was = c.loop-tag.invariant in let one = c.end_gone.ensures in let tag = string_bytes c.in-Some.tag in let more = Gone tag ∷ [] in record {
      acts = was.acts ++ more;
      none = none_more was.acts more was.none refl;
      does = λ wire. does_more (was.does wire) (does_gone tag _ _ wire (rw c.as_str.ensures.value at one.transactions));
      rowed = rowed_more was.acts more _ _ _ was.rowed (rowed_gone tag _ _ (rw c.as_str.ensures.value at one.rows));
      burst = one.burst ∙ was.burst;
      holds = on_more was.acts more _ _ _ was.holds (idle_on (Gone tag) _ _ refl refl one.fewer);
    }

pub returns-clause-ended : goal.returns-clause-ended
returns-clause-ended g c = let at = c.loop-tag.invariant in (at.acts, at.none, at.does, at.rowed, at.holds)
