use Rattle.std.proofs.Common.{reverse, vec_len}
use Rattle.crew.proofs.Reporting.{Settling}
use Rattle.crew.proofs.joining.settle_port.Given as goal

abbrev pub invariant-loop-sent : goal.invariant-loop-sent
invariant-loop-sent l = Settling l.fn.reports l.reports (reverse l.fn.sents.items) l.sents.items l.at

abbrev pub decreases-loop-sent : goal.decreases-loop-sent
decreases-loop-sent l = vec_len l.sents
