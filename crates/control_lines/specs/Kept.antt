-- The answers to the last lines with a token, newest first.
use Rattle.std.specs.Prelude.{ℕ, List, ◌∷◌, Option, Some, None, find, take, nat_eq, option_map}
use Rattle.circular_buffer.specs.Buffer.{Buffer, buffer}
use Rattle.control_lines.specs.declared.answer.ControlAnswer.{ControlAnswer}
use Rattle.control_lines.specs.declared.kept.AnsweredLine.{AnsweredLine}
use Rattle.control_lines.specs.declared.token.Token.{Token}
use Rattle.control_lines.specs.Slots.{answers, with_newest}

-- the newest answer to a line with this token, if there is one
abbrev pub kept_answer : List AnsweredLine → Option Token → Option ControlAnswer
kept_answer kept None = None
kept_answer kept (Some t) = option_map (λ (k : AnsweredLine). k.answer) (find (answers t.number) kept)

-- with an answer to a line with this token before the others: the oldest goes when there is no room
abbrev pub with_answer : Buffer AnsweredLine → Option Token → ControlAnswer → Buffer AnsweredLine
with_answer kept None a = kept
with_answer kept (Some t) a = with_newest kept (record { token = t.number; answer = a })
