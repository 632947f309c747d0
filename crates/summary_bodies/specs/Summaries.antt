-- What a body of application/simple-message-summary tells (RFC 3842 section 5.2).
--
--   messages-summary = msg-status-line CRLF [msg-account CRLF] *(msg-summary-line CRLF) [opt-msg-headers]
--   msg-status-line  = "Messages-Waiting" HCOLON ("yes" / "no")
--   msg-account      = "Message-Account" HCOLON Account-URI
--   msg-summary-line = message-context-class HCOLON counts                       ; Numbers.antt
--   opt-msg-headers  = CRLF 1*(extension-header CRLF)                            ; not looked at
--
-- Names and `yes` and `no` ignore case. Lines are not continued. Each class stands once at most, and so does `none`, of which nothing is kept:
-- so there are six summary lines at most. Messages that wait are counted by some line.
use Rattle.std.specs.Prelude.{ℕ, zero, suc, Bool, true, false, ◌&&◌, ◌==◌, is_some, is_none, List, [], ◌∷◌, if◌then◌else◌, Option, Some, None, Result, Ok, Err, codes}
use Rattle.std.specs.Str.{byte, str_eq_ignore_ascii_case}
use Rattle.sip_text.specs.declared.scan.Class.TheVariants as bytes
use Rattle.sip_text.specs.Bytes.{is_in}
use Rattle.sip_text.specs.Reading.{word_of}
use Rattle.sip_read.specs.LinesComputed.{line_at, header_of}
use Rattle.package.specs.declared.counts.Class.{Class}
use Rattle.package.specs.declared.counts.Class.TheVariants as class
use Rattle.package.specs.declared.counts.Counts.{Counts}
use Rattle.package.specs.declared.counts.MailCounts.{MailCounts}
use Rattle.package.specs.Changes.{counts_of as counts_in, with_counts, unset}
use Rattle.summary_bodies.specs.declared.class.Context.{Context}
use Rattle.summary_bodies.specs.declared.class.Context.TheVariants as context
use Rattle.summary_bodies.specs.declared.error.SummaryError.{SummaryError}
use Rattle.summary_bodies.specs.declared.error.SummaryError.TheVariants as error
use Rattle.summary_bodies.specs.Numbers.{counts_of}

-- what is told of a mailbox: whether messages wait in it, which account it is, where that is named, and the counts of each class that a line
-- names
pub record Told : Type 0 where
  pub is_waiting : Bool
  pub account : Option (List ℕ)
  pub counts : MailCounts

infixl 10 ◌>>=◌
abbrev pub ◌>>=◌ : {A B : Type 0} → Result A SummaryError → (A → Result B SummaryError) → Result B SummaryError
(Ok x) >>= f = f x
(Err e) >>= f = Err e

-- ---- lines

abbrev pub names : List ℕ → List ℕ → Bool
names name other = str_eq_ignore_ascii_case name other

abbrev pub field_in : Option (List ℕ × List ℕ) → List ℕ → Result ((List ℕ × List ℕ) × List ℕ) SummaryError
field_in None rest = Err error.BadLine
field_in (Some field) rest = Ok (field, rest)

abbrev pub field_of : Option (List ℕ × List ℕ) → Result ((List ℕ × List ℕ) × List ℕ) SummaryError
field_of None = Err error.BadLine
field_of (Some line) = field_in (header_of line.0) line.1

-- the name and the value of the line at the front, and what follows the line
abbrev pub field_at : List ℕ → Result ((List ℕ × List ℕ) × List ℕ) SummaryError
field_at t = field_of (line_at t)

-- nothing more is told: here is the end, or an empty line
abbrev pub is_end : List ℕ → Bool
is_end [] = true
is_end (a ∷ []) = false
is_end (a ∷ b ∷ rest) = (a == byte "\r") && (b == byte "\n")

-- ---- the first two

abbrev pub status_with : List ℕ → Result Bool SummaryError
status_with value =
    if names value (codes "yes") then Ok true
    else if names value (codes "no") then Ok false
    else Err error.BadStatus

abbrev pub status_of : List ℕ → List ℕ → Result Bool SummaryError
status_of name value = if names name (codes "messages-waiting") then status_with value else Err error.NoStatus

-- the status line, and what follows it
unfoldable pub status_at : List ℕ → Result (Bool × List ℕ) SummaryError
status_at t = do
  field ← field_at t
  is_waiting ← status_of field.0.0 field.0.1
  Ok (is_waiting, field.1)

abbrev pub account_word : Option (List ℕ) → List ℕ → Result (Option (List ℕ) × List ℕ) SummaryError
account_word None rest = Err error.BadAccount
account_word (Some uri) rest = Ok (Some uri, rest)

-- the account, where the line at the front names one, and what follows it
abbrev pub account_after : List ℕ → Result ((List ℕ × List ℕ) × List ℕ) SummaryError → Result (Option (List ℕ) × List ℕ) SummaryError
account_after t (Err e) = Ok (None, t)
account_after t (Ok field) =
    if names field.0.0 (codes "message-account") then account_word (word_of (is_in bytes.Uri) field.0.1) field.1
    else Ok (None, t)

abbrev pub account_at : List ℕ → Result (Option (List ℕ) × List ℕ) SummaryError
account_at t = account_after t (field_at t)

-- ---- summary lines

-- what the name of a line stands for (RFC 3458 section 2)
abbrev pub context_of : List ℕ → Option Context
context_of name =
    if names name (codes "voice-message") then Some (context.Kept class.Voice)
    else if names name (codes "fax-message") then Some (context.Kept class.Fax)
    else if names name (codes "pager-message") then Some (context.Kept class.Pager)
    else if names name (codes "multimedia-message") then Some (context.Kept class.Multimedia)
    else if names name (codes "text-message") then Some (context.Kept class.Text)
    else if names name (codes "none") then Some context.Unclassed
    else None

abbrev pub with_class : Class → Counts → MailCounts → Result MailCounts SummaryError
with_class k n m = if is_some (counts_in k m) then Err error.Twice else Ok (with_counts k n m)

abbrev pub with_context : Context → Counts → MailCounts → Result MailCounts SummaryError
with_context (context.Kept k) n m = with_class k n m
with_context context.Unclassed n m = Ok m

abbrev pub with_named : Option Context → List ℕ → MailCounts → Result MailCounts SummaryError
with_named None value m = Err error.UnknownClass
with_named (Some c) value m = counts_of value >>= λ n. with_context c n m

-- the counts once a line was read behind these, and what follows the line
unfoldable pub line_after : List ℕ → MailCounts → Result (MailCounts × List ℕ) SummaryError
line_after t m = do
  field ← field_at t
  counts ← with_named (context_of field.0.0) field.0.1 m
  Ok (counts, field.1)

-- the counts once all summary lines were read behind these, of which there are so many at most
unfoldable pub lines_after : ℕ → List ℕ → MailCounts → Result MailCounts SummaryError
lines_after zero t m = if is_end t then Ok m else Err error.Twice
lines_after (suc n) t m = if is_end t then Ok m else (line_after t m >>= λ x. lines_after n x.1 x.0)

-- ---- all of it

abbrev pub counts_none : MailCounts → Bool
counts_none m = is_none m.voice && (is_none m.fax && (is_none m.pager && (is_none m.multimedia && is_none m.text)))

abbrev pub told_with : Bool → Option (List ℕ) → MailCounts → Result Told SummaryError
told_with is_waiting account m =
    if is_waiting && counts_none m then Err error.Uncounted
    else Ok (record { is_waiting = is_waiting; account = account; counts = m })

-- what the body tells
unfoldable pub told_in : List ℕ → Result Told SummaryError
told_in body = do
  status ← status_at body
  account ← account_at status.1
  counts ← lines_after 6 account.1 unset
  told_with status.0 account.0 counts
