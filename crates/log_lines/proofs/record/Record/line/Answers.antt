use Rattle.std.proofs.Common.{rules}
use Rattle.log_lines.proofs.OneLine.{lost_is_line, fits_is_line}
use Rattle.log_lines.proofs.record.Record.line.Goals as goal

pub returns-then-not-fits-clause-one : goal.returns-then-not-fits-clause-one
returns-then-not-fits-clause-one c = lost_is_line _ (search rules)

pub returns-clause-one : goal.returns-clause-one
returns-clause-one c = fits_is_line c.in_ok-line.line.items _ (search rules) (search rules)
