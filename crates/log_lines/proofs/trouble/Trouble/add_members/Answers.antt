use Rattle.log_lines.proofs.Joins.{on_ok, join3}
use Rattle.log_lines.proofs.trouble.Trouble.add_members.Goals as goal

pub returns-in_ok-number-in-FailedSince-clause-tokens : goal.returns-in_ok-number-in-FailedSince-clause-tokens
returns-in_ok-number-in-FailedSince-clause-tokens c =
    rw c.in-FailedSince.is (on_ok c.passage.result _ _
    (join3 _ _ _ _ _ _ _ c.in_ok-word-in-FailedSince.ensures.tokens c.in_ok-number-in-FailedSince.ensures.tokens)
    c.passage.ensures.tokens)
