use Rattle.log_lines.proofs.Joins.{on_ok, join4}
use Rattle.log_lines.proofs.request.Request.add_members.Goals as goal

pub returns-in_ok-text-in-Unanswered-clause-tokens : goal.returns-in_ok-text-in-Unanswered-clause-tokens
returns-in_ok-text-in-Unanswered-clause-tokens c =
    rw c.in-Unanswered.is (on_ok c.text-in-Unanswered-2.result _ _
    (join4 _ _ _ _ _ _ _ _ _ c.in_ok-place-in-Unanswered.ensures.tokens c.in_ok-word-in-Unanswered.ensures.tokens c.in_ok-text-in-Unanswered.ensures.tokens)
    c.text-in-Unanswered-2.ensures.tokens)
