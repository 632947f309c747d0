use Rattle.std.proofs.Common.{rules}
use Rattle.std.proofs.lemmas.Fn.{filter_same}
use Rattle.notifier.proofs.sweep.row.close.Goals as goal

pub returns : goal.returns
returns c = filter_same _ _ _ (λ notify b f' k. search rules) _ _ c.retain.ensures.filtered
