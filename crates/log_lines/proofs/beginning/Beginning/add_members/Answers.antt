use Rattle.log_lines.proofs.Joins.{on_ok, join3, join4}
use Rattle.log_lines.proofs.beginning.Beginning.add_members.Goals as goal

pub returns-in_ok-number-in-Listening-clause-tokens : goal.returns-in_ok-number-in-Listening-clause-tokens
returns-in_ok-number-in-Listening-clause-tokens c =
    rw c.in-Listening.is (on_ok c.number-in-Listening.result _ _
    (join4 _ _ _ _ _ _ _ _ _ c.in_ok-place-in-Listening.ensures.tokens c.in_ok-place-in-Listening-2.ensures.tokens c.in_ok-number-in-Listening.ensures.tokens)
    c.number-in-Listening.ensures.tokens)

pub returns-in_ok-number-in-SmallBuffer-clause-tokens : goal.returns-in_ok-number-in-SmallBuffer-clause-tokens
returns-in_ok-number-in-SmallBuffer-clause-tokens c =
    rw c.in-SmallBuffer.is (on_ok c.number-in-SmallBuffer-2.result _ _
    (join3 _ _ _ _ _ _ _ c.in_ok-word-in-SmallBuffer.ensures.tokens c.in_ok-number-in-SmallBuffer.ensures.tokens)
    c.number-in-SmallBuffer-2.ensures.tokens)
