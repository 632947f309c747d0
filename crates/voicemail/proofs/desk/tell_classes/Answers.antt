use Rattle.std.proofs.Common.{sym, ◌∙◌}
use Rattle.voicemail.specs.Notices.{notice_seen}
use Rattle.voicemail.proofs.Telling.{stops, goes_on}
use Rattle.voicemail.proofs.desk.tell_classes.Goals as goal

pub returns-then-not-is_done : goal.returns-then-not-is_done
returns-then-not-is_done g c =
    stops (notice_seen c.args.notice.now) c.args.page.now c.args.classes.now c.loop-class.class-index _ _ _ _ c.loop-class-test.true c.loop-class.invariant
    c.tell_class-status.result c.tell_class-status.ensures (sym c.is_done.ensures ∙ c.if-not-is_done.true)
