-- The 401, the 403, the 413 and the 503 (RFC 3261 sections 21.4.2, 21.4.4, 21.4.11 and 21.5.4). They have the layout of all answers.
use Rattle.std.specs.Prelude.{ℕ, List, [], ◌∷◌, ◌++◌, map, Some, codes}
use Rattle.sip_text.specs.declared.address.Addr.{Addr}
use Rattle.sip_read.specs.declared.message.Request.{Request}
use Rattle.sip_write.specs.declared.status.Status.TheVariants as status
use Rattle.sip_write.specs.Answer.{AnswerText, via_lines, dialog_lines, answer_text}
use Rattle.sip_write.specs.Lines.{joined, header}
use Rattle.notifier_model.specs.Answers.{bare_answer}

-- a 403, whose To gets this tag where it has none
abbrev pub forbidden : Addr → Request → List ℕ → AnswerText
forbidden source r tag = bare_answer source r (Some tag) status.Forbidden

unfoldable pub forbidden_text : Addr → Request → List ℕ → List ℕ
forbidden_text source r tag = answer_text (forbidden source r tag)

-- the lines of a 401: those of an answer, and a WWW-Authenticate line for each challenge (RFC 3261 section 20.44)
abbrev pub challenge_lines : AnswerText → List (List ℕ) → List (List ℕ)
challenge_lines a challenges =
    codes "SIP/2.0 401 Unauthorized"
    ∷ (via_lines a.source a.head.top a.head.vias
    ++ (dialog_lines a
    ++ (map (header (codes "WWW-Authenticate")) challenges
    ++ header (codes "Content-Length") (codes "0") ∷ [] ∷ [])))

unfoldable pub challenge_text : Addr → Request → List ℕ → List (List ℕ) → List ℕ
challenge_text source r tag challenges = joined (challenge_lines (forbidden source r tag) challenges)

-- the lines of a 413: those of an answer
abbrev pub large_lines : AnswerText → List (List ℕ)
large_lines a =
    codes "SIP/2.0 413 Request Entity Too Large"
    ∷ (via_lines a.source a.head.top a.head.vias ++ (dialog_lines a ++ header (codes "Content-Length") (codes "0") ∷ [] ∷ []))

unfoldable pub large_text : Addr → Request → List ℕ → List ℕ
large_text source r tag = joined (large_lines (forbidden source r tag))

-- the lines of a 503: those of an answer, and for how many seconds not to ask again (RFC 3261 section 20.33)
abbrev pub unavailable_lines : AnswerText → List (List ℕ)
unavailable_lines a =
    codes "SIP/2.0 503 Service Unavailable"
    ∷ (via_lines a.source a.head.top a.head.vias
    ++ (dialog_lines a
    ++ (header (codes "Retry-After") (codes "60") ∷ []
    ++ header (codes "Content-Length") (codes "0") ∷ [] ∷ [])))

unfoldable pub unavailable_text : Addr → Request → List ℕ → List ℕ
unavailable_text source r tag = joined (unavailable_lines (forbidden source r tag))
