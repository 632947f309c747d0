-- The body of a NOTIFY: the whole content of a resource.
use Rattle.std.specs.Prelude.{ℕ, Bool, false, ◌||◌, nat_lt, if◌then◌else◌, List, [], ◌++◌, Option, None, Some, codes, decimal}
use Rattle.package.specs.declared.counts.Counts.{Counts}
use Rattle.package.specs.declared.counts.MailCounts.{MailCounts}
use Rattle.package.specs.Content.{Content, OfMail, OfStatus}

abbrev pub crlf : List ℕ
crlf = codes "\r\n"

-- ---- mailboxes (RFC 3842 section 5.2)
--
--     messages-summary = msg-status-line CRLF [msg-account CRLF] [*(msg-summary-line CRLF)] [*opt-msg-headers]
--     msg-status-line  = "Messages-Waiting" HCOLON msg-status
--     msg-status       = "yes" / "no"
--     msg-summary-line = message-context-class HCOLON newmsgs SLASH oldmsgs
--                        [LPAREN new-urgentmsgs SLASH old-urgentmsgs RPAREN]
--
-- This notifier writes one text of these: urgent counts in each line, no account line, no headers.

abbrev pub is_waiting : Option Counts → Bool
is_waiting None = false
is_waiting (Some n) = nat_lt 0 n.new_count

-- does some class have a new message?
abbrev pub waiting : MailCounts → Bool
waiting m =
    is_waiting m.voice || (is_waiting m.fax || (is_waiting m.pager || (is_waiting m.multimedia || is_waiting m.text)))

-- the line of a class, if it was ever set
abbrev pub class_line : List ℕ → Option Counts → List ℕ
class_line label None = []
class_line label (Some n) =
    label ++ (codes "-Message: "
    ++ (decimal n.new_count ++ (codes "/"
    ++ (decimal n.old_count ++ (codes " ("
    ++ (decimal n.urgent_new ++ (codes "/" ++ (decimal n.urgent_old ++ (codes ")" ++ crlf)))))))))

abbrev pub mail_body : MailCounts → List ℕ
mail_body m =
    (if waiting m then codes "Messages-Waiting: yes" else codes "Messages-Waiting: no")
    ++ (crlf ++ (class_line (codes "Voice") m.voice
    ++ (class_line (codes "Fax") m.fax
    ++ (class_line (codes "Pager") m.pager
    ++ (class_line (codes "Multimedia") m.multimedia ++ class_line (codes "Text") m.text)))))

-- ---- transfers (RFC 3515 section 2.4.5, RFC 3420): a status line stands for how far one has come

-- Status-Line = SIP-Version SP Status-Code SP Reason-Phrase CRLF      (RFC 3261 section 7.2)
abbrev pub status_body : ℕ → List ℕ → List ℕ
status_body code reason = codes "SIP/2.0 " ++ (decimal code ++ (codes " " ++ (reason ++ crlf)))

-- ---- either

abbrev pub body_of : Content → List ℕ
body_of (OfMail m) = mail_body m
body_of (OfStatus code reason) = status_body code reason

-- nothing where the resource isn't held
abbrev pub body_of_held : Option Content → List ℕ
body_of_held None = []
body_of_held (Some content) = body_of content
