-- Without an `@` there is no user part.
use Rattle.std.proofs.Common.{◌≡◌, ℕ, false, List, [], refl, subst, arith, rules}
use Rattle.std.specs.List.{list_any, after_first}
use Rattle.notifier_model.specs.Requests.{is_colon, is_at, user_before_at, user_part}
use Rattle.notifier_model.proofs.Texts.{none_passes}
use Rattle.notifier_model.proofs.uri.user_part.Goals as goal

pub returns-in-None : goal.returns-in-None
unfolding user_part
returns-in-None c =
    let none : list_any is_at c.in-Some.rest.now ≡ false = none_passes is_at _ (c.in-None.ensures.byte (omega arith) (λ w o h. h)) in
    let rest : c.in-Some.rest.now ≡ after_first is_colon c.args.uri.now = search rules in
    let P : List ℕ → Type 0 = λ l. [] ≡ user_before_at l in
    subst P rest (rw none refl)
