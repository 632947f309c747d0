use Rattle.std.proofs.Common.{◌≡◌, ◌≤◌, true, false, length, inr, sym, ap, subst, arith, rules}
use Rattle.std.specs.Prelude.{All}
use Rattle.std.proofs.lemmas.List.{take_all}
use Rattle.plans.specs.declared.error.PlanError.TheVariants as error
use Rattle.plans.specs.Heard.{is_user}
use Rattle.plans.proofs.admitting.check_users.Goals as goal

pub returns-then-not-is_user-clause-refused : goal.returns-then-not-is_user-clause-refused
returns-then-not-is_user-clause-refused c =
    let pair = c.pair-item.result in
    let none : is_user c.args.passwords.now pair.0 ≡ false = search rules in
    inr (pair.0, pair.1, (c.loop-pair.pair-index, c.loop-pair-test.true, sym c.pair-item.is), none, ap error.NoUser c.in_ok-user.ensures)

pub returns-clause-known : goal.returns-clause-known
returns-clause-known c =
    let further = c.args.further.now in
    let high : length further ≤ c.loop-pair.pair-index = (let b = c.loop-pair-test.false in omega arith) in
    subst (All (λ pair. is_user c.args.passwords.now pair.0 ≡ true)) (take_all c.loop-pair.pair-index further high) c.loop-pair.invariant
