use Rattle.std.proofs.Common.{append_assoc}
use Rattle.std.proofs.Output.{has_written_of_eq}
use Rattle.log_lines.proofs.request.RequestDisplay.fmt.Goals as goal

pub returns-in-Unanswered-clause-writes : goal.returns-in-Unanswered-clause-writes
returns-in-Unanswered-clause-writes g c plain ok =
    has_written_of_eq _ _ _ _ _ (rw c.in-Unanswered.is (simp append_assoc)) (c.write-in-Unanswered.ensures.writes plain ok)
