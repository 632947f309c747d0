use Rattle.std.proofs.Common.{rules, ap, ◌∙◌}
use Rattle.std.specs.Int.NonZero.{non_zero_u32_get}
use Rattle.std.proofs.lemmas.List.{take_all}
use Rattle.service.specs.Made.{own_changes, worker_changes}
use Rattle.service.proofs.Making.{changes_more}
use Rattle.service.proofs.made.Made.changes.Goals as goal

pub loop-place-preserved : goal.loop-place-preserved
loop-place-preserved c =
    let at = c.loop-place in
    changes_more (own_changes (non_zero_u32_get c.args.self.now.workers) c.args.worker) c.args.self.now.told at.place _ _ at.invariant c.in_ok-add_own.ensures

pub returns : goal.returns
returns c =
    let at = c.loop-place in
    at.invariant ∙ ap (worker_changes (non_zero_u32_get c.args.self.now.workers) c.args.worker) (take_all at.place c.args.self.now.told (search rules))
