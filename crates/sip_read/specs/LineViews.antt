-- What contracts see of a line in one piece.
use Rattle.std.specs.Prelude.{ℕ, List, Option, Some, None, option_map}
use Rattle.std.specs.Borrow.{Bor}
use Rattle.sip_read.specs.declared.datagram.Line.{Line}

abbrev pub whole_or : List ℕ → Option (List ℕ) → List ℕ
whole_or first None = first
whole_or first (Some whole) = whole

abbrev pub line_seen : Line → List ℕ
line_seen l = whole_or l.first.now (option_map (λ v. v.items) l.unfolded)

abbrev pub unfolded_seen : (Line × Bor (List ℕ)) → List ℕ × List ℕ
unfolded_seen x = (line_seen x.0, x.1.now)
