use Rattle.std.proofs.Common.{◌≡◌, ◌∙◌, sym}
use Rattle.std.specs.Prelude.{codes}
use Rattle.control_lines.proofs.Lines.{close_bare, close_one_word}
use Rattle.control_lines.proofs.line.hear_line.Goals as goal

pub returns-in-Err : goal.returns-in-Err
returns-in-Err c = (
  sym c.is_answer.ensures ∙ c.if-is_answer.false,
  sym c.is_reload.ensures ∙ c.if-is_reload.false,
  λ h.
      (let never = c.in-Err.ensures.alone (codes "CLOSE") (close_bare c.args.octets.now h) close_one_word in absurd cc),
  λ line is one. (let never = c.in-Err.ensures.alone line is one in absurd cc),
)
