use Rattle.service.specs.Made.{last_change}
use Rattle.service.proofs.Making.{class_more}
use Rattle.service.proofs.made.add_classes.Goals as goal

pub loop-class-preserved : goal.loop-class-preserved
loop-class-preserved c =
    class_more (last_change (c.args.mailbox.now, c.args.counts.now)) c.args.classes.now c.loop-class.class-index _ _ _ _ c.loop-class-test.true
    c.loop-class.invariant c.in_ok-add_class.ensures
