use Rattle.std.proofs.Common.{◌≡◌, ◌≤◌, true, false, length, inr, sym, ap, subst, arith, rules}
use Rattle.std.specs.Prelude.{All}
use Rattle.std.proofs.lemmas.List.{take_all}
use Rattle.plans.specs.declared.error.PlanError.TheVariants as error
use Rattle.plans.specs.Heard.{has_mailbox}
use Rattle.plans.proofs.admitting.check_mailboxes.Goals as goal

pub returns-then-not-has_mailbox-clause-refused : goal.returns-then-not-has_mailbox-clause-refused
returns-then-not-has_mailbox-clause-refused c =
    let pair = c.pair-item.result in
    let none : has_mailbox c.args.mailboxes.now pair.1 ≡ false = search rules in
    inr (pair.0, pair.1, (c.loop-pair.pair-index, c.loop-pair-test.true, sym c.pair-item.is), none, ap error.NoFurther c.in_ok-mailbox.ensures)

pub returns-clause-accepted : goal.returns-clause-accepted
returns-clause-accepted c =
    let further = c.args.further.now in
    let high : length further ≤ c.loop-pair.pair-index = (let b = c.loop-pair-test.false in omega arith) in
    subst (All (λ pair. has_mailbox c.args.mailboxes.now pair.1 ≡ true)) (take_all c.loop-pair.pair-index further high) c.loop-pair.invariant
