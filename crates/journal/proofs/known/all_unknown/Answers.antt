use Rattle.std.proofs.Common.{◌≡◌, ◌++◌, ◌∷◌, [], ◌∙◌, ap, sym, subst}
use Rattle.journal.specs.Generations.{Known}
use Rattle.journal.specs.Gathering.{AreUnknown}
use Rattle.journal.proofs.Gathering.{none_unknown, one_unknown}
use Rattle.journal.proofs.known.all_unknown.Goals as goal

pub loop-worker-init : goal.loop-worker-init
loop-worker-init c = subst (AreUnknown 0) (sym c.new-all.ensures.items) none_unknown

pub loop-worker-preserved : goal.loop-worker-preserved
loop-worker-preserved c =
    let at = c.loop-worker in
    subst (AreUnknown _) (ap (λ (k : Known). at.all.items ++ k ∷ []) (sym c.new.ensures) ∙ sym c.in_ok-push.ensures.items) (one_unknown at._worker at.all.items at.invariant)
