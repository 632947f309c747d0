use Rattle.std.specs.Io.Iter.{lines_known_bytes}
use Rattle.plans.proofs.LineFiles.{AreTakenFirst}
use Rattle.plans.proofs.line_file.take_lines.Given as goal

abbrev pub invariant-loop-line : goal.invariant-loop-line
invariant-loop-line g l = record {
  sound : g.T.TakesLines.is_sound l.taker;
  first : AreTakenFirst g.T.TakesLines.takes (g.B.Read.remaining l.fn.reader) (lines_known_bytes g.B.Read.remaining l.line-iterator) l.number l.fn.taker l.taker;
}
