use Rattle.std.proofs.Common.{◌∙◌, sym, ap}
use Rattle.std.specs.BTreeSet as sorted
use Rattle.notifier.specs.Stored.{by_time}
use Rattle.notifier.proofs.Times.{stopped}
use Rattle.notifier.proofs.store.rows.stop_timer.Goals as goal

pub returns : goal.returns
returns c = λ d s. stopped c.args.before c.args.serial d s _ _ (c.remove.ensures.updates.0 (d, s)) (λ q. ap (λ x. sorted.contains by_time c.args.timers.now (d, x)) (sym q) ∙ c.requires d)
