use Rattle.std.proofs.Common.{◌≡◌, length}
use Rattle.sip_read.specs.LinesComputed.{lines_of}
use Rattle.admission.proofs.HeaderLines.{behind}
use Rattle.admission.proofs.lines.header_lines.Given as goal

abbrev pub invariant-loop-first : goal.invariant-loop-first
invariant-loop-first l = behind l.lines.items (lines_of l.rest) ≡ lines_of l.text

abbrev pub decreases-loop-first : goal.decreases-loop-first
decreases-loop-first l = length l.rest
