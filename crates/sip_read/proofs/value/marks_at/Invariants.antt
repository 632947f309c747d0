use Rattle.std.proofs.Common.{◌≡◌, length}
use Rattle.sip_text.specs.Reading.{some_of}
use Rattle.sip_read.specs.Views.{marks as marks_seen}
use Rattle.sip_read.specs.ViasComputed.{marks_at}
use Rattle.sip_read.proofs.Marks.{marks_after}
use Rattle.sip_read.proofs.value.marks_at.Given as goal

abbrev pub invariant-loop-rest : goal.invariant-loop-rest
invariant-loop-rest l = marks_after (marks_seen l.marks) (some_of l.rest) ≡ marks_at l.text

abbrev pub decreases-loop-rest : goal.decreases-loop-rest
decreases-loop-rest l = length l.rest
