-- What a control line asks to be told.
--
--   question = "STATUS"
--            / "SHOW" SP mailbox
--            / "DUMP" [SP mailbox]
--            / "WATCHERS" [SP (mailbox / "*") [SP place]]   ; `*` stands for all mailboxes, a place is decimal, below 2^64
--
-- A LF may follow. The mailbox of SHOW and DUMP goes to the end of the line.
use Rattle.std.specs.Prelude.{◌≡◌, ℕ, List, Option, Some, None, codes, bytes_eq, if◌then◌else◌}
use Rattle.std.specs.Str.{byte}
use Rattle.sip_text.specs.Reading.{◌>>=◌, cut_at, text_of, plain_number}
use Rattle.scripts.specs.Lines.{bare_line}
use Rattle.control_lines.specs.declared.question.Question.{Question}
use Rattle.control_lines.specs.declared.question.Question.TheVariants as question

-- the watchers of the mailbox that the word names, or of all, from this place on
unfoldable pub watched : List ℕ → ℕ → Option Question
watched word from =
    if bytes_eq word (codes "*") then Some (question.Watchers None from)
    else (text_of word >>= λ mailbox. Some (question.Watchers (Some mailbox) from))

-- from the place that stands behind the word, or from the first on where nothing does
abbrev pub watched_from : Option (List ℕ × List ℕ) → List ℕ → Option Question
watched_from None rest = watched rest 0
watched_from (Some cut) rest = plain_number cut.1 >>= λ from. watched cut.0 from

unfoldable pub watchers_behind : List ℕ → Option Question
watchers_behind rest = watched_from (cut_at (byte " ") rest) rest

-- the question of this first word and of what stands behind it
unfoldable pub named : List ℕ → List ℕ → Option Question
named name rest =
    if bytes_eq name (codes "WATCHERS") then watchers_behind rest
    else (text_of rest >>= λ mailbox.
    if bytes_eq name (codes "SHOW") then Some (question.Show mailbox)
    else if bytes_eq name (codes "DUMP") then Some (question.Dump (Some mailbox))
    else None)

-- the question that a line without its LF asks, if it asks one
unfoldable pub question_of : List ℕ → Option Question
question_of line =
    if bytes_eq line (codes "STATUS") then Some question.Status
    else if bytes_eq line (codes "DUMP") then Some (question.Dump None)
    else if bytes_eq line (codes "WATCHERS") then Some (question.Watchers None 0)
    else (cut_at (byte " ") line >>= λ cut. named cut.0 cut.1)

-- a line of one word, which has no space
abbrev pub IsOneWord : List ℕ → Type 0
IsOneWord line = cut_at (byte " ") line ≡ None

-- the question that these bytes ask, if they ask one
unfoldable pub question_in : List ℕ → Option Question
question_in octets = bare_line octets >>= question_of
