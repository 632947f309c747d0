-- What the reader computes of a datagram, as a function on lists. The relation (Message) is what it comes to.
use Rattle.std.specs.Prelude.{ℕ, List, length, take, nat_lt, if◌then◌else◌, Option, Some, None, Result, Ok, Err}
use Rattle.sip_text.specs.declared.field.Field.{Field}
use Rattle.sip_text.specs.declared.field.Field.TheVariants as field
use Rattle.event_headers.specs.Values.{Range}
use Rattle.sip_read.specs.declared.value.Sequence.{Sequence}
use Rattle.sip_read.specs.declared.error.HeaderName.{HeaderName}
use Rattle.sip_read.specs.declared.error.HeaderName.TheVariants as names
use Rattle.sip_read.specs.declared.error.ReadError.{ReadError}
use Rattle.sip_read.specs.declared.error.ReadError.TheVariants as errors
use Rattle.sip_read.specs.declared.message.Head.{Head}
use Rattle.sip_read.specs.declared.message.Message.{Message}
use Rattle.sip_read.specs.declared.message.Message.TheVariants as messages
use Rattle.sip_read.specs.declared.message.Party.{Party}
use Rattle.sip_read.specs.declared.message.Request.{Request}
use Rattle.sip_read.specs.declared.message.Via.{Via}
use Rattle.sip_read.specs.declared.gathered.Once.{Once}
use Rattle.sip_read.specs.declared.gathered.Once.TheVariants as once
use Rattle.sip_read.specs.FieldsComputed.{accept_kept}
use Rattle.sip_read.specs.FirstLine.{First, request, status}
use Rattle.sip_read.specs.FirstLineComputed.{first_at}
use Rattle.sip_read.specs.GatheredComputed.{Gathered, Fields, nothing, gather}
use Rattle.sip_read.specs.OnceComputed.{is_several, required, field_of}

infixl 10 ◌then◌
abbrev pub ◌then◌ : {A B : Type 0} → Result A ReadError → (A → Result B ReadError) → Result B ReadError
(Ok x) then f = f x
(Err e) then f = Err e

abbrev pub or_else : {A : Type 0} → ReadError → Option A → Result A ReadError
or_else e None = Err e
or_else e (Some x) = Ok x

-- the first header that may stand once and stands in several lines
abbrev pub doubled : Gathered → Option HeaderName
doubled g = if is_several g.from then Some names.From else
    (if is_several g.to then Some names.To else
    (if is_several g.call_id then Some names.CallId else
    (if is_several g.cseq then Some names.CSeq else
    (if is_several g.content_length then Some names.ContentLength else None))))

abbrev pub refused : {A : Type 0} → Option HeaderName → Result A ReadError → Result A ReadError
refused None r = r
refused (Some n) r = Err (errors.Twice n)

abbrev pub top_required : Option Via → Result Via ReadError
top_required None = Err (errors.Missing names.Via)
top_required (Some top) = Ok top

abbrev pub parties_of : Once Party → Once Party → Result (Party × Party) ReadError
parties_of from to = required names.From from then λ f. required names.To to then λ t. Ok (f, t)

abbrev pub numbers_of : Once (List ℕ) → Once Sequence → Result (List ℕ × Sequence) ReadError
numbers_of call_id cseq = required names.CallId call_id then λ i. required names.CSeq cseq then λ c. Ok (i, c)

abbrev pub call_of : Once Party → Once Party → Once (List ℕ) → Once Sequence → Result ((Party × Party) × (List ℕ × Sequence)) ReadError
call_of from to call_id cseq = parties_of from to then λ p. numbers_of call_id cseq then λ n. Ok (p, n)

unfoldable pub head_of : List (List ℕ) → Option Via → Once Party → Once Party → Once (List ℕ) → Once Sequence → Result Head ReadError
head_of vias top from to call_id cseq =
    top_required top then λ v.
    call_of from to call_id cseq then λ c.
    Ok (record { vias = vias; top = v; from = c.0.0; to = c.0.1; call_id = c.1.0; cseq = c.1.1.number; cseq_method = c.1.1.method })

-- what a Content-Length leaves of the rest; several lines are refused before
abbrev pub body_of : Once ℕ → List ℕ → Result (List ℕ) ReadError
body_of (once.One n) rest = if nat_lt (length rest) n then Err errors.ShortBody else Ok (take n rest)
body_of once.Absent rest = Ok rest
body_of once.Several rest = Ok rest

abbrev pub value_or_bad : {A : Type 0} → Option A → Field A
value_or_bad None = field.Bad
value_or_bad (Some x) = field.Value x

abbrev pub accept_field : Option (List ℕ) → Field (List Range)
accept_field None = field.Absent
accept_field (Some joined) = value_or_bad (accept_kept joined)

abbrev pub request_of : List ℕ → List ℕ → Head → Fields → List ℕ → Request
request_of method uri head fields body = record {
  method = method;
  uri = uri;
  head = head;
  event = field_of fields.event;
  expires = field_of fields.expires;
  accept = accept_field fields.accept;
  contact = field_of fields.contact;
  refer_to = field_of fields.refer_to;
  refer_sub = field_of fields.refer_sub;
  require = fields.require;
  record_routes = fields.record_routes;
  body = body;
}

abbrev pub finished : First → Head → Fields → List ℕ → Message
finished (request method uri) head fields body = messages.Request (request_of method uri head fields body)
finished (status code reason) head fields body = messages.Response (record { status = code; reason = reason; head = head })

unfoldable pub message_of : First → Gathered → List ℕ → Result Message ReadError
message_of first g rest = refused (doubled g) (
    head_of g.vias g.top g.from g.to g.call_id g.cseq then λ head.
    body_of g.content_length rest then λ body.
    Ok (finished first head g.fields body))

unfoldable pub read_of : List ℕ → Result Message ReadError
read_of bytes = if nat_lt 65535 (length bytes) then Err errors.TooLong else
    (or_else errors.NotSip (first_at bytes) then λ s.
    or_else errors.BadLine (gather nothing s.1) then λ h.
    message_of s.0 h.0 h.1)
