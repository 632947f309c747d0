use Rattle.std.proofs.Common.{◌≡◌, length}
use Rattle.sip_read.specs.LinesComputed.{continued_of}
use Rattle.sip_read.proofs.datagram.joined_lines.Given as goal

abbrev pub invariant-loop-rest : goal.invariant-loop-rest
invariant-loop-rest l = continued_of l.line.items l.rest ≡ continued_of l.first l.text

abbrev pub decreases-loop-rest : goal.decreases-loop-rest
decreases-loop-rest l = length l.rest
