-- The note of an answer to a NOTIFY.
use Rattle.std.specs.Prelude.{ℕ, List, Option, None, codes, bytes_eq, option_map, if◌then◌else◌}
use Rattle.sip_text.specs.declared.address.Addr.{Addr}
use Rattle.sip_read.specs.declared.message.Head.{Head}
use Rattle.sip_read.specs.declared.message.Response.{Response}
use Rattle.transactions.specs.Runs.{Call, Answer}
use Rattle.service.specs.declared.post.Note.{Note}

-- the local tag of the NOTIFY that a response answers, if it answers one: the From tag is the local one (RFC 3261 section
-- 17.1.3)
unfoldable pub answered_tag : Head → Option (List ℕ)
answered_tag head = if bytes_eq head.cseq_method (codes "NOTIFY") then head.from.tag else None

abbrev pub noted : Addr → Response → List ℕ → Note
noted source r tag = record { source = source; tag = tag; call_id = r.head.call_id; number = r.head.cseq; status = r.status }

-- the note of a response that came from this address, if it answers a NOTIFY
abbrev pub note_of : Addr → Response → Option Note
note_of source r = option_map (noted source r) (answered_tag r.head)

-- what it is to the open transactions of NOTIFYs
abbrev pub answer_of : Note → Call
answer_of n = Answer n.tag n.number n.status
