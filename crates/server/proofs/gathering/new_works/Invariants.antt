use Rattle.server.specs.Gathering.{AreNew}
use Rattle.server.proofs.gathering.new_works.Given as goal

abbrev pub invariant-loop-number : goal.invariant-loop-number
invariant-loop-number l = AreNew l.number l.works.items
