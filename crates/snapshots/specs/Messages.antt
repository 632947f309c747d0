-- How requests and responses are written: each part in its order.
use Rattle.std.specs.Prelude.{◌≡◌, ℕ, Bool, true, false, List, [], ◌∷◌, ◌++◌, ◌==◌, if◌then◌else◌, Option, Some, None, codes}
use Rattle.std.specs.Str.{byte}
use Rattle.sip_read.specs.declared.message.Via.{Via}
use Rattle.sip_read.specs.declared.message.Party.{Party}
use Rattle.sip_read.specs.declared.message.Head.{Head}
use Rattle.sip_read.specs.declared.message.Request.{Request}
use Rattle.sip_read.specs.declared.message.Response.{Response}
use Rattle.sip_text.specs.declared.field.Field.{Field}
use Rattle.event_headers.specs.Values.{EventValue, Range}
use Rattle.snapshots.specs.Forms.{number_text, short_at, IsShort, count_at, IsCount, bytes_text, bytes_at, AreBytes, text_at, IsText, option_text, option_at, IsOption, both_at, made_at, list_text, list_at, AreAll}
use Rattle.snapshots.specs.Fields.{field_text, field_at, FieldFits, range_text, range_at, RangeFits, is_accept}
use Rattle.snapshots.specs.Rows.{event_text, event_at, IsEvent}

abbrev pub bool_text : Bool → List ℕ
bool_text true = codes "+"
bool_text false = codes "-"

unfoldable pub bool_at : List ℕ → Option (Bool × List ℕ)
bool_at [] = None
bool_at (x ∷ xs) = if x == byte "+" then Some (true, xs) else if x == byte "-" then Some (false, xs) else None

abbrev pub IsBool : Bool → Type 0
IsBool b = Unit {0}

abbrev pub via_text : Via → List ℕ
via_text v = bytes_text v.sent_by ++ (option_text v.branch ++ bool_text v.bare_rport)

abbrev pub ViaParts : Type 0
ViaParts = List ℕ × (Option (List ℕ) × Bool)

abbrev pub via_of : ViaParts → Option Via
via_of p = Some (record { sent_by = p.0; branch = p.1.0; bare_rport = p.1.1 })

unfoldable pub via_at : List ℕ → Option (Via × List ℕ)
via_at t = made_at via_of (both_at text_at (both_at option_at bool_at)) t

pub record IsVia (v : Via) : Type 0 where
  pub sent_by : IsText v.sent_by
  pub branch : IsOption v.branch

abbrev pub party_text : Party → List ℕ
party_text p = bytes_text p.text ++ option_text p.tag

abbrev pub party_of : List ℕ × Option (List ℕ) → Option Party
party_of p = Some (record { text = p.0; tag = p.1 })

unfoldable pub party_at : List ℕ → Option (Party × List ℕ)
party_at t = made_at party_of (both_at text_at option_at) t

pub record IsParty (p : Party) : Type 0 where
  pub text : IsText p.text
  pub tag : IsOption p.tag

abbrev pub head_text : Head → List ℕ
head_text h =
    list_text bytes_text h.vias ++ (via_text h.top ++ (party_text h.from ++ (party_text h.to
    ++ (bytes_text h.call_id ++ (number_text h.cseq ++ bytes_text h.cseq_method)))))

abbrev pub HeadParts : Type 0
HeadParts = List (List ℕ) × (Via × (Party × (Party × (List ℕ × (ℕ × List ℕ)))))

abbrev pub head_of : HeadParts → Option Head
head_of p = Some (record {
  vias = p.0;
  top = p.1.0;
  from = p.1.1.0;
  to = p.1.1.1.0;
  call_id = p.1.1.1.1.0;
  cseq = p.1.1.1.1.1.0;
  cseq_method = p.1.1.1.1.1.1;
})

unfoldable pub head_at : List ℕ → Option (Head × List ℕ)
head_at t =
    made_at head_of (both_at (list_at text_at) (both_at via_at (both_at party_at (both_at party_at
    (both_at text_at (both_at count_at text_at)))))) t

pub record IsHead (h : Head) : Type 0 where
  pub vias : AreAll IsText h.vias
  pub top : IsVia h.top
  pub from : IsParty h.from
  pub to : IsParty h.to
  pub call_id : IsText h.call_id
  pub cseq : IsCount h.cseq
  pub cseq_method : IsText h.cseq_method

-- ---- a request

abbrev pub request_text : Request → List ℕ
request_text r =
    bytes_text r.method ++ (bytes_text r.uri ++ (head_text r.head
    ++ (field_text event_text r.event ++ (field_text number_text r.expires ++ (field_text (list_text range_text) r.accept
    ++ (field_text bytes_text r.contact ++ (field_text bytes_text r.refer_to ++ (field_text bool_text r.refer_sub
    ++ (list_text bytes_text r.require ++ (list_text bytes_text r.record_routes ++ bytes_text r.body))))))))))

abbrev pub RequestParts : Type 0
RequestParts =
    List ℕ × (List ℕ × (Head × (Field EventValue × (Field ℕ × (Field (List Range) × (Field (List ℕ) × (Field (List ℕ) × (Field Bool × (List (List ℕ) × (List (List ℕ) × (List ℕ)))))))))))

abbrev pub request_of : RequestParts → Option Request
request_of p = Some (record {
  method = p.0;
  uri = p.1.0;
  head = p.1.1.0;
  event = p.1.1.1.0;
  expires = p.1.1.1.1.0;
  accept = p.1.1.1.1.1.0;
  contact = p.1.1.1.1.1.1.0;
  refer_to = p.1.1.1.1.1.1.1.0;
  refer_sub = p.1.1.1.1.1.1.1.1.0;
  require = p.1.1.1.1.1.1.1.1.1.0;
  record_routes = p.1.1.1.1.1.1.1.1.1.1.0;
  body = p.1.1.1.1.1.1.1.1.1.1.1;
})

unfoldable pub request_at : List ℕ → Option (Request × List ℕ)
request_at t =
    made_at request_of (both_at text_at (both_at text_at (both_at head_at
    (both_at (field_at event_at) (both_at (field_at count_at) (both_at (field_at (list_at range_at)) (both_at (field_at text_at)
    (both_at (field_at text_at) (both_at (field_at bool_at) (both_at (list_at text_at) (both_at (list_at text_at) bytes_at))))))))))) t

pub record IsRequest (r : Request) : Type 0 where
  pub method : IsText r.method
  pub uri : IsText r.uri
  pub head : IsHead r.head
  pub event : FieldFits IsEvent r.event
  pub expires : FieldFits IsCount r.expires
  pub accept : FieldFits (AreAll RangeFits) r.accept
  pub contact : FieldFits IsText r.contact
  pub refer_to : FieldFits IsText r.refer_to
  pub refer_sub : FieldFits IsBool r.refer_sub
  pub require : AreAll IsText r.require
  pub record_routes : AreAll IsText r.record_routes
  pub body : AreBytes r.body

-- its Accept, too, is read again
abbrev pub IsSound : Request → Type 0
IsSound r = is_accept r.accept ≡ true

-- ---- a response

abbrev pub response_text : Response → List ℕ
response_text r = number_text r.status ++ (bytes_text r.reason ++ head_text r.head)

abbrev pub ResponseParts : Type 0
ResponseParts = ℕ × (List ℕ × Head)

abbrev pub response_of : ResponseParts → Option Response
response_of p = Some (record { status = p.0; reason = p.1.0; head = p.1.1 })

unfoldable pub response_at : List ℕ → Option (Response × List ℕ)
response_at t = made_at response_of (both_at short_at (both_at text_at head_at)) t

pub record IsResponse (r : Response) : Type 0 where
  pub status : IsShort r.status
  pub reason : IsText r.reason
  pub head : IsHead r.head
