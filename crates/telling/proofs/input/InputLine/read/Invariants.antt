use Rattle.std.proofs.Common.{ℕ, List}
use Rattle.telling.specs.Input.{Holds}
use Rattle.telling.proofs.LineReads.{IsRead}
use Rattle.telling.proofs.input.InputLine.read.Given as goal

-- what was read so far
abbrev pub invariant-loop-read : goal.invariant-loop-read
invariant-loop-read g l =
    (line : List ℕ) × IsRead line l.read (g.B.Read.remaining l.fn.reader) (g.B.Read.remaining l.reader) × Holds line l.self.octets.items l.self.is_cut
