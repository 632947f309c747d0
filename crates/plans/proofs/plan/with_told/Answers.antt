use Rattle.std.proofs.Common.{◌≡◌, Bool, true, false, refl}
use Rattle.std.specs.Prelude.{not}
use Rattle.plans.proofs.Planned.{told_too}
use Rattle.plans.proofs.plan.with_told.Goals as goal

was_true : (b : Bool) → not b ≡ false → b ≡ true
was_true true e = refl
was_true false e = absurd cc

pub returns-clause-plan : goal.returns-clause-plan
returns-clause-plan c =
    let more = c.in_ok-plan.ensures.mailboxes in
    λ words is. told_too words c.args.plan c.in_ok-plan.field-0 more.0 (was_true c.args.plan.choices.any_mailbox c.if-not-plan.false) more.1 more.2 is
