use Rattle.summary_bodies.proofs.summary.+lines_after.Given as goal

abbrev pub decreases-lines_after : goal.decreases-lines_after
decreases-lines_after l = l.left
