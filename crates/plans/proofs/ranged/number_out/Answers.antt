use Rattle.std.proofs.Common.{subst}
use Rattle.std.specs.Prelude.{IfNone}
use Rattle.std.specs.List.{All}
use Rattle.plans.specs.Ranges.{Fits}
use Rattle.plans.proofs.ranged.number_out.Goals as goal

pub returns-clause-none : goal.returns-clause-none
returns-clause-none c = subst (λ rs. IfNone c.first_out.result (All Fits rs)) c.ranges-2.ensures c.first_out.ensures.none
