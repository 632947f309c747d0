-- How much is kept of a request: by a subscription, and in its answer, which a retransmission gets again (RFC 3261 section 17.2.2).
use Rattle.std.specs.Prelude.{ℕ, ◌+◌, Bool, false, nat_lt, List, [], ◌∷◌, length, sum_by, Option, Some, None}
use Rattle.sip_text.specs.declared.field.Field.{Field}
use Rattle.sip_text.specs.declared.field.Field.TheVariants as field
use Rattle.event_headers.specs.Values.{EventValue}
use Rattle.sip_read.specs.declared.message.Head.{Head}
use Rattle.sip_read.specs.declared.message.Request.{Request}
use Rattle.admission.specs.declared.judging.TheConstants.{LINE}

abbrev pub id_length : Option (List ℕ) → ℕ
id_length None = 0
id_length (Some id) = length id

abbrev pub event_length : Field EventValue → ℕ
event_length field.Absent = 0
event_length field.Bad = 0
event_length (field.Value e) = length e.«package» + id_length e.id

abbrev pub contact_length : Field (List ℕ) → ℕ
contact_length field.Absent = 0
contact_length field.Bad = 0
contact_length (field.Value address) = length address

-- the octets of values that an answer repeats, each with the rest of its line
abbrev pub lines_length : List (List ℕ) → ℕ
lines_length values = sum_by (λ value. length value + LINE) values

abbrev pub top_length : List (List ℕ) → ℕ
top_length [] = 0
top_length (top ∷ others) = length top

-- what each answer repeats (RFC 3261 section 8.2.6.2): From, To, Call-ID, the method of the CSeq, and the line of each Via. The top one counts
-- twice: each `rport` in it gets a port there (RFC 3581 section 4), and its sent-by and branch name the transaction
abbrev pub head_length : Head → ℕ
head_length head =
    length head.from.text + length head.to.text + length head.call_id + length head.cseq_method + lines_length head.vias
    + top_length head.vias

-- that; the method, which names the transaction too; what a subscription keeps besides: the address of the Contact, the package and the id of
-- the Event; and what only some answers repeat: the line of each Record-Route (RFC 3261 section 12.1.1), and each option tag that is required
-- (section 8.2.2.3), as if it had a line of its own
abbrev pub kept : Request → ℕ
kept r =
    head_length r.head + length r.method + contact_length r.contact + event_length r.event + lines_length r.record_routes
    + lines_length r.require

-- those are more than so many
abbrev pub is_over : Option ℕ → Request → Bool
is_over None r = false
is_over (Some most) r = nat_lt most (kept r)
