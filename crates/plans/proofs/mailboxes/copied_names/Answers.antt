use Rattle.std.proofs.Common.{◌∙◌}
use Rattle.plans.proofs.Once.{set_more}
use Rattle.plans.proofs.mailboxes.copied_names.Goals as goal

pub loop-name-preserved : goal.loop-name-preserved
loop-name-preserved c =
    set_more c.args.names.now c.loop-name.name-index c.name-item.result c.loop-name.set.keys _ _
    c.loop-name-test.true c.name-item.is (c.in_ok-from_str.ensures.ok ∙ c.as_str.ensures) c.loop-name.invariant c.in_ok-insert.ensures.keys
