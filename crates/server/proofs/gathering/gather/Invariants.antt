use Rattle.server.proofs.Kept.{Gathers}
use Rattle.server.proofs.gathering.gather.Given as goal

abbrev pub invariant-loop : goal.invariant-loop
invariant-loop g l = Gathers l.fn.taker l.taker l.left l.is_whole l.fn.works l.works
