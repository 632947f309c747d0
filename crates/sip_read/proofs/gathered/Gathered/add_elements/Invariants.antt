use Rattle.std.proofs.Common.{◌≡◌, length}
use Rattle.sip_read.specs.Views.{gathered_seen}
use Rattle.sip_read.proofs.Gatherings.{adding}
use Rattle.sip_read.proofs.gathered.Gathered.add_elements.Given as goal

abbrev pub invariant-loop-after : goal.invariant-loop-after
invariant-loop-after l = adding l.listed (gathered_seen l.self) l.rest ≡ adding l.listed (gathered_seen l.fn.self) l.value

abbrev pub decreases-loop-after : goal.decreases-loop-after
decreases-loop-after l = length l.rest
