use Rattle.std.proofs.Common.{◌≡◌}
use Rattle.telling.specs.Taken.{telling_seen}
use Rattle.telling.proofs.Runs.{SoFar}
use Rattle.telling.proofs.telling.Telling.tell_each.Given as goal

-- what was told so far
abbrev pub invariant-loop-line : goal.invariant-loop-line
invariant-loop-line g l =
    SoFar l.fn.self.takes_progress l.is_refused
    (telling_seen g.B.Read.remaining g.S.Speaker.asked g.S.Speaker.turns l.fn.self)
    (telling_seen g.B.Read.remaining g.S.Speaker.asked g.S.Speaker.turns l.self)
    × (l.self.takes_progress ≡ l.fn.self.takes_progress)
