use Rattle.control_lines.proofs.Unasked.{silent_none}
use Rattle.control_lines.proofs.asking.tell_line.Goals as goal

pub loop-try-init : goal.loop-try-init
loop-try-init g c =
    silent_none c.args.line.now (record { asked = g.S.Speaker.asked c.args.speaker.now; turns = g.S.Speaker.turns c.args.speaker.now })
