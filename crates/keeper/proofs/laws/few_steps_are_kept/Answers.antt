use Rattle.keeper.proofs.Few.{one_of_each, few_kept}
use Rattle.keeper.proofs.laws.few_steps_are_kept.Goals as goal

pub returns-clause-once : goal.returns-clause-once
returns-clause-once c = one_of_each

pub returns-clause-few : goal.returns-clause-few
returns-clause-few c = few_kept
