use Rattle.plans.proofs.FirstOut.{are_limits}
use Rattle.plans.proofs.plan.chosen_limits.Goals as goal

pub unreachable-requires : goal.unreachable-requires
unreachable-requires c = c.in_default-new.ensures (are_limits c.args.numbers.now c.in_default.ensures.none)
