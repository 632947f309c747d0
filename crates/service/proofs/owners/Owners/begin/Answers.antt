use Rattle.std.proofs.Common.{Some, ap, ◌∙◌}
use Rattle.std.specs.Cmp.Lexicographic.{nat_list_eq_equiv}
use Rattle.std.proofs.lemmas.Result.{err_from_is_err_and}
use Rattle.service.specs.Owners.{until}
use Rattle.service.proofs.Owning.{at_tag, elsewhere, swept_then}
use Rattle.service.proofs.owners.Owners.begin.Goals as goal

pub returns-clause-made : goal.returns-clause-made
returns-clause-made c =
    let tag = c.args.tag.now in
    at_tag tag tag _ _ _ (c.in_ok-put_owner.ensures.made tag) (nat_list_eq_equiv.refl tag)
    ∙ ap (λ u. Some (record { user = c.args.user; until = u })) (c.until-until.ensures ∙ ap (λ s. until s c.args.seconds) c.sweep.ensures.second)

pub returns-clause-others : goal.returns-clause-others
returns-clause-others c = λ t other. swept_then _ _ _ _ (c.sweep.ensures.swept t) (elsewhere c.args.tag.now t _ _ _ (c.in_ok-put_owner.ensures.made t) other)

pub returns-in_err-put_owner-clause-others : goal.returns-in_err-put_owner-clause-others
returns-in_err-put_owner-clause-others c = λ t other. swept_then _ _ _ _ (c.sweep.ensures.swept t) (c.in_err-put_owner.ensures.err t)

pub returns-in_err-put_owner-clause-nobody : goal.returns-in_err-put_owner-clause-nobody
returns-in_err-put_owner-clause-nobody c =
    let tag = c.args.tag.now in
    let swept = swept_then _ _ _ _ (c.sweep.ensures.swept tag) (c.in_err-put_owner.ensures.err tag) in
    let p = err_from_is_err_and c.from_residual.result c.from_residual.ensures.1 in rw p.1 swept
