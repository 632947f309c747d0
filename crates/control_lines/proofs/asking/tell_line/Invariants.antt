use Rattle.control_lines.specs.Asking.{IsSilent}
use Rattle.control_lines.proofs.asking.tell_line.Given as goal

abbrev pub invariant-loop-try : goal.invariant-loop-try
invariant-loop-try g l =
    IsSilent l._try l.line
    (record { asked = g.S.Speaker.asked l.fn.speaker; turns = g.S.Speaker.turns l.fn.speaker })
    (record { asked = g.S.Speaker.asked l.speaker; turns = g.S.Speaker.turns l.speaker })
