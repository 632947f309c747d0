use Rattle.std.proofs.Common.{rules}
use Rattle.std.proofs.lemmas.Fn.{filter_same}
use Rattle.keeper.proofs.steps.forget_steps.Goals as goal

pub returns : goal.returns
returns c = filter_same _ _ _ (λ step b f' k. search rules) _ _ c.retain.ensures.filtered
