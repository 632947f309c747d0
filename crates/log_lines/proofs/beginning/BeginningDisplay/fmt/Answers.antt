use Rattle.std.proofs.Common.{rules, append_assoc}
use Rattle.std.proofs.Output.{has_written_append, has_written_of_eq}
use Rattle.log_lines.proofs.beginning.BeginningDisplay.fmt.Goals as goal

pub returns-in_ok-write-in-Listening-clause-writes : goal.returns-in_ok-write-in-Listening-clause-writes
returns-in_ok-write-in-Listening-clause-writes g c plain ok =
    let one = c.in_ok-write-in-Listening.ensures.writes plain (search rules) in
    let two = c.write-in-Listening.ensures.writes one.plain ok in
    has_written_of_eq _ _ _ _ _ (rw c.in-Listening.is (simp append_assoc)) (has_written_append _ _ _ _ _ _ one two)
