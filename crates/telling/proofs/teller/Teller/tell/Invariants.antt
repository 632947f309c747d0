use Rattle.telling.specs.Hearing.{seen}
use Rattle.telling.proofs.Tellings.{Waited}
use Rattle.telling.proofs.teller.Teller.tell.Given as goal

-- the service was out of memory each time
abbrev pub invariant-loop : goal.invariant-loop
invariant-loop g l =
    Waited l.line (seen g.S.Speaker.asked g.S.Speaker.turns l.fn.self) (seen g.S.Speaker.asked g.S.Speaker.turns l.self)
