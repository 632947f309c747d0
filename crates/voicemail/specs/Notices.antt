-- What a request asks for of who hears a voicemail system: a NOTIFY outside any dialog tells of a mailbox (RFC 3842 section 5.2).
--
--   status   why
--   none     an ACK gets no answer (RFC 3261 section 17)
--   405      it is no NOTIFY
--   481      it is in a dialog, and there is none (RFC 6665 section 4.1.3)
--   489      its event is another one, or none (RFC 6665 section 8.3.2)
--   400      its body is no summary
--   404      no mailbox is named
--   200      its mailbox was told of it (Served.antt)
use Rattle.std.specs.Prelude.{ℕ, Bool, true, false, not, is_some, if◌then◌else◌, List, Option, Some, None, option_map, unwrap_or, Result, Ok, Err, codes, bytes_eq}
use Rattle.event_headers.specs.Values.{EventValue}
use Rattle.sip_text.specs.declared.field.Field.{Field}
use Rattle.sip_text.specs.declared.field.Field.TheVariants as field
use Rattle.sip_read.specs.declared.message.Request.{Request}
use Rattle.sip_write.specs.declared.status.Status.{Status}
use Rattle.sip_write.specs.declared.status.Status.TheVariants as status
use Rattle.notifier_model.specs.Requests.{user_part, is_ack}
use Rattle.package.specs.Texts.{is_word}
use Rattle.package.specs.declared.counts.MailCounts.{MailCounts}
use Rattle.summary_bodies.specs.Summaries.{Told, told_in}
use Rattle.summary_bodies.specs.declared.error.SummaryError.{SummaryError}
use Rattle.voicemail.specs.declared.notice.Asked.{Asked as AskedHere}
use Rattle.voicemail.specs.declared.notice.Asked.TheVariants as here
use Rattle.voicemail.specs.declared.notice.Notice.{Notice as NoticeHere}

-- the mailbox that is told of, and the counts of each class that is named
pub record Notice : Type 0 where
  pub mailbox : List ℕ
  pub counts : MailCounts

pub data Asked : Type 0 where
  OfNothing : Asked
  OfRefusal : Status → Asked
  OfNotice : Notice → Asked

abbrev pub notice_seen : NoticeHere → Notice
notice_seen n = record { mailbox = n.mailbox.now; counts = n.counts }

-- what contracts see of what is asked for, which borrows from the request
abbrev pub seen : AskedHere → Asked
seen here.Nothing = OfNothing
seen (here.Refusal s) = OfRefusal s
seen (here.Notice n) = OfNotice (notice_seen n)

abbrev pub is_notify : Request → Bool
is_notify r = bytes_eq r.method (codes "NOTIFY")

abbrev pub is_of_mail : Field EventValue → Bool
is_of_mail (field.Value e) = bytes_eq e.package (codes "message-summary")
is_of_mail field.Absent = false
is_of_mail field.Bad = false

-- the user of the account, where one is named, or else of the Request-URI
abbrev pub told_mailbox : Option (List ℕ) → List ℕ → List ℕ
told_mailbox account uri = user_part (unwrap_or account uri)

abbrev pub named : List ℕ → MailCounts → Asked
named mailbox counts = if is_word mailbox then OfNotice (record { mailbox = mailbox; counts = counts }) else OfRefusal status.NotFound

abbrev pub noticed_with : Result Told SummaryError → List ℕ → Asked
noticed_with (Err e) uri = OfRefusal status.BadRequest
noticed_with (Ok t) uri = named (told_mailbox t.account uri) t.counts

-- what a NOTIFY of message-summary with this body asks for
abbrev pub noticed : List ℕ → List ℕ → Asked
noticed body uri = noticed_with (told_in body) uri

abbrev pub meaning : Request → Asked
meaning r =
    if is_ack r then OfNothing
    else if not (is_notify r) then OfRefusal status.MethodNotAllowed
    else if is_some r.head.to.tag then OfRefusal status.CallDoesNotExist
    else if not (is_of_mail r.event) then OfRefusal status.BadEvent
    else noticed r.body r.uri
