use Rattle.std.proofs.Common.{length, ◌-◌}
use Rattle.transport.proofs.Devices.{TookSoFar}
use Rattle.scripts.proofs.output.write_page.Given as goal

abbrev pub invariant-loop-sent : goal.invariant-loop-sent
invariant-loop-sent g l =
    TookSoFar (g.W.Write.contents l.initial.sink.writer) (g.W.Write.contents l.sink.writer) l.page l.sent l.initial.sink.failures l.sink.failures

abbrev pub decreases-loop-sent : goal.decreases-loop-sent
decreases-loop-sent g l = length l.page - l.sent
