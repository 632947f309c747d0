use Rattle.std.proofs.Common.{◌≡◌, length}
use Rattle.sip_read.specs.GatheredComputed.{gather}
use Rattle.sip_read.specs.Views.{gathered_seen}
use Rattle.sip_read.proofs.gathered.Gathered.add_lines.Given as goal

abbrev pub invariant-loop-first : goal.invariant-loop-first
invariant-loop-first l = gather (gathered_seen l.self) l.rest ≡ gather (gathered_seen l.fn.self) l.text

abbrev pub decreases-loop-first : goal.decreases-loop-first
decreases-loop-first l = length l.rest
