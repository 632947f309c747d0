-- What a reader of messages finds in a written answer.
use Rattle.std.specs.Prelude.{◌≡◌, ℕ, ◌<◌, ◌≤◌, ◌^◌, false, List, ◌∷◌, ◌++◌, length, map, All, IfSome, Option, Some, None, codes}
use Rattle.sip_text.specs.declared.scan.Class.TheVariants as class
use Rattle.sip_text.specs.Grammar.{IsWord}
use Rattle.sip_text.specs.Grammar.{IsToken}
use Rattle.event_headers.specs.Headers.{Fits}
use Rattle.event_headers.specs.Written.{parameter_text}
use Rattle.sip_read.specs.declared.message.Head.{Head}
use Rattle.sip_read.specs.declared.message.Message.TheVariants as messages
use Rattle.sip_read.specs.declared.message.Party.{Party}
use Rattle.sip_read.specs.Addresses.{IsParty, IsRoute}
use Rattle.sip_read.specs.Calls.{IsCallId}
use Rattle.sip_read.specs.Message.{Reads}
use Rattle.sip_read.specs.Vias.{Hop, via_of, IsHop}
use Rattle.sip_write.specs.Answer.{AnswerText, answer_text, added_tag}
use Rattle.sip_write.specs.ReadAgain.{IsAddr, IsFieldText}
use Rattle.sip_write.specs.Status.{code, phrase}
use Rattle.sip_write.specs.Via.{top_via_text}

-- a Via value that stands in a header line
abbrev pub IsViaField : Hop → Type 0
IsViaField h = IsHop h.text h × IsFieldText h.text

-- a Record-Route value that stands in a header line
abbrev pub IsRouteField : List ℕ → Type 0
IsRouteField route = IsRoute route × IsFieldText route

-- a From or To that stands in a header line
abbrev pub IsPartyField : Party → Type 0
IsPartyField p = IsParty p.text p × IsFieldText p.text

-- the values of an answer, each in its grammar; top and others are the hops of the request's Via values
pub record IsAnswer (a : AnswerText) (top : Hop) (others : List Hop) : Type 0 where
  pub source : IsAddr a.source
  pub vias : a.head.vias ≡ top.text ∷ map (λ h. h.text) others
  pub top_via : a.head.top ≡ via_of top
  pub is_top : IsViaField top
  pub are_others : All IsViaField others
  pub from : IsPartyField a.head.from
  pub to : IsPartyField a.head.to
  pub tag : IfSome a.tag (IsWord class.Token)
  pub call_id : IsCallId a.head.call_id
  pub number : a.head.cseq < 2 ^ 31
  pub method : IsWord class.Token a.head.cseq_method
  pub record_routes : All IsRouteField a.record_routes
  pub contact : IfSome a.contact IsAddr
  pub expires : IfSome a.expires Fits
  pub min_expires : IfSome a.min_expires Fits
  pub allow : IfSome a.allow (All IsToken)
  pub allow_events : IfSome a.allow_events (All IsToken)
  pub unsupported : IfSome a.unsupported (All IsToken)

-- the tag of a To to which a tag is added where it has none
abbrev pub kept_tag : Option (List ℕ) → Option (List ℕ) → Option (List ℕ)
kept_tag (Some own) tag = Some own
kept_tag None tag = tag

-- the head of the answer: that of the request, with the source in the top Via and a tag in the To
abbrev pub answer_head : AnswerText → Hop → List Hop → Head
answer_head a top others = record {
  vias = top_via_text a.source (via_of top) top.text ∷ map (λ h. h.text) others;
  top = record { sent_by = top.sent_by; branch = top.branch; bare_rport = false };
  from = a.head.from;
  to = record { text = a.head.to.text ++ parameter_text (codes "tag") (added_tag a.head.to.tag a.tag); tag = kept_tag a.head.to.tag a.tag };
  call_id = a.head.call_id;
  cseq = a.head.cseq;
  cseq_method = a.head.cseq_method;
}

-- a written answer that fits in a datagram is a response with this head and the same status
abbrev pub AnswerIsReadAgain : Type 0
AnswerIsReadAgain =
    (a : AnswerText) (top : Hop) (others : List Hop) → IsAnswer a top others → length (answer_text a) ≤ 65535
    → Reads (answer_text a) (messages.Response (record { status = code a.status; reason = phrase a.status; head = answer_head a top others }))
