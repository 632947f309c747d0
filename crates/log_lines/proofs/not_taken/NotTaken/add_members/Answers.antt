use Rattle.log_lines.proofs.Joins.{on_ok, join4}
use Rattle.log_lines.proofs.not_taken.NotTaken.add_members.Goals as goal

pub returns-clause-tokens : goal.returns-clause-tokens
returns-clause-tokens c =
    on_ok c.add_dialog.result _ _
    (join4 _ _ _ _ _ _ _ _ _ c.in_ok-number.ensures.tokens c.in_ok-place.ensures.tokens c.in_ok-add_code.ensures.tokens)
    c.add_dialog.ensures.tokens
