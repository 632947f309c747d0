use Rattle.std.proofs.Common.{◌∙◌}
use Rattle.plans.proofs.Planned.{planned}
use Rattle.plans.proofs.plan.plan_on.Goals as goal

pub returns-clause-plan : goal.returns-clause-plan
returns-clause-plan g c =
    let read = c.in_ok-choices.ensures in let some = c.in_ok-check_mailboxes.ensures in let limits = c.in_ok-chosen_limits.ensures in
    planned c.args.words.now _ c.in_ok-choices.field-0.mailboxes.items read.read c.in_ok-mailboxes.ensures read.changes read.heard read.watched read.operators read.feeds read.journal
    (c.is_reached.ensures.0 c.if-not-is_reached.false) (λ any none. some.some any (c.deref.ensures.value ∙ none)) some.kept limits.limits limits.within c.in_ok-seed_or_random.ensures.seed c.worker_count.ensures
