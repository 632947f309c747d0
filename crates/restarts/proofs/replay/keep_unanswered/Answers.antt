use Rattle.std.proofs.Common.{rules}
use Rattle.std.proofs.lemmas.Fn.{filter_same}
use Rattle.restarts.proofs.replay.keep_unanswered.Goals as goal

pub returns : goal.returns
returns g c = filter_same _ _ _ (λ out b f' k. search rules) _ _ c.retain.ensures.filtered
