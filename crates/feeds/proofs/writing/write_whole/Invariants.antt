use Rattle.std.proofs.Common.{length, ◌-◌}
use Rattle.transport.proofs.Devices.{TookSoFar}
use Rattle.feeds.proofs.writing.write_whole.Given as goal

abbrev pub invariant-loop-written : goal.invariant-loop-written
invariant-loop-written g l =
    TookSoFar (g.F.Write.contents l.initial.sink.writer) (g.F.Write.contents l.sink.writer) l.bytes l.written l.initial.sink.failures l.sink.failures

abbrev pub decreases-loop-written : goal.decreases-loop-written
decreases-loop-written g l = length l.bytes - l.written
