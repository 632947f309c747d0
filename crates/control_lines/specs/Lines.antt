-- Control lines of a running service, and its answers.
--
--   asked  = (MAIL line / PROGRESS line / "CLOSE") [LF]      ; as in a script
--            / "RELOAD" [LF]
--            / question                                      ; Questions.antt
--   answer = "ok" / "bad line" / "unknown mailbox" / "closed" / "out of memory" / "busy"
--            / "ok" LF *(line LF)                            ; what a question is told
--            / "no" LF number SP words                       ; why a RELOAD is refused
--
-- A TICK is none: a running service has a clock of its own.
use Rattle.std.specs.Prelude.{◌≡◌, ℕ, Bool, true, false, ◌&&◌, ◌||◌, ◌==◌, List, [], ◌∷◌, ◌++◌, codes, bytes_eq, ◌⊎◌, Option, Some, None}
use Rattle.std.specs.Str.{byte}
use Rattle.scripts.specs.declared.script.Control.{Control}
use Rattle.scripts.specs.declared.script.Control.TheVariants as control
use Rattle.scripts.specs.Script.{lf, IsControlLine}
use Rattle.scripts.specs.Lines.{bare_line}
use Rattle.control_lines.specs.declared.answer.ControlAnswer.{ControlAnswer}
use Rattle.control_lines.specs.declared.answer.ControlAnswer.TheVariants as answer
use Rattle.control_lines.specs.declared.line.Asked.{Asked}
use Rattle.control_lines.specs.declared.line.Asked.TheVariants as asked
use Rattle.control_lines.specs.Questions.{IsOneWord, question_in}

-- ---- answers

abbrev pub answer_text : ControlAnswer → List ℕ
answer_text answer.Done = codes "ok"
answer_text answer.BadLine = codes "bad line"
answer_text answer.UnknownMailbox = codes "unknown mailbox"
answer_text answer.Closed = codes "closed"
answer_text answer.NoMemory = codes "out of memory"
answer_text answer.Busy = codes "busy"

-- the answer says that all went well: its first line is `ok`
abbrev pub IsYes : List ℕ → Type 0
IsYes octets = (octets ≡ codes "ok") ⊎ ((rest : List ℕ) × (octets ≡ codes "ok" ++ (lf ++ rest)))

-- they begin as an `ok` with lines behind it
abbrev pub has_lines : List ℕ → Bool
has_lines [] = false
has_lines (a ∷ []) = false
has_lines (a ∷ b ∷ []) = false
has_lines (a ∷ b ∷ c ∷ rest) = (a == byte "o") && ((b == byte "k") && (c == byte "\n"))

-- they begin as a `no` with what refuses a RELOAD behind it
abbrev pub has_reason : List ℕ → Bool
has_reason [] = false
has_reason (a ∷ []) = false
has_reason (a ∷ b ∷ []) = false
has_reason (a ∷ b ∷ c ∷ rest) = (a == byte "n") && ((b == byte "o") && (c == byte "\n"))

-- these bytes are an answer of a service
abbrev pub is_answer : List ℕ → Bool
is_answer octets =
    has_lines octets || (has_reason octets || (bytes_eq octets (codes "ok") || (bytes_eq octets (codes "bad line") || (bytes_eq octets (codes "unknown mailbox")
    || (bytes_eq octets (codes "closed") || (bytes_eq octets (codes "out of memory") || bytes_eq octets (codes "busy")))))))

-- ---- lines

-- it changes nothing that a service knows: no line, or a TICK
abbrev pub IsNoLine : List ℕ → Type 0
IsNoLine octets = (c : Control) → IsControlLine octets c → (n : ℕ) × (c ≡ control.Tick n)

-- the line, without its LF, is the word RELOAD
abbrev pub is_word : Option (List ℕ) → Bool
is_word None = false
is_word (Some line) = bytes_eq line (codes "RELOAD")

-- these bytes ask to read the files again
unfoldable pub is_reload : List ℕ → Bool
is_reload octets = is_word (bare_line octets)

-- the bytes are no question of one word
abbrev pub IsNoQuestionOfOneWord : List ℕ → Type 0
IsNoQuestionOfOneWord octets = (line : List ℕ) → bare_line octets ≡ Some line → IsOneWord line → question_in octets ≡ None

-- what the bytes ask for. An answer asks for nothing, and neither that nor a RELOAD nor a CLOSE nor a question of one word needs memory
abbrev pub Asks : List ℕ → Asked → Type 0
Asks octets (asked.Change c) = IsControlLine octets (control.Change c)
Asks octets asked.Close = IsControlLine octets control.Close
Asks octets (asked.Question q) = question_in octets ≡ Some q
Asks octets asked.Nothing = is_answer octets ≡ true
Asks octets asked.Reload = is_reload octets ≡ true
Asks octets asked.Bad = (is_answer octets ≡ false) × (is_reload octets ≡ false) × (question_in octets ≡ None) × IsNoLine octets
Asks octets asked.NoMemory = (is_answer octets ≡ false) × (is_reload octets ≡ false) × ¬ (IsControlLine octets control.Close) × IsNoQuestionOfOneWord octets
