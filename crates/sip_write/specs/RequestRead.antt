-- The values of a request that was read, and what a reader of messages finds in an answer to it.
use Rattle.std.specs.Prelude.{◌≡◌, ℕ, ◌<◌, ◌≤◌, ◌^◌, List, [], ◌∷◌, ◌⊎◌, length, map, All, IfSome}
use Rattle.sip_text.specs.declared.field.Field.TheVariants as field
use Rattle.sip_text.specs.declared.scan.Class.TheVariants as class
use Rattle.sip_text.specs.Grammar.{IsWord}
use Rattle.sip_text.specs.Grammar.{IsToken}
use Rattle.event_headers.specs.Headers.{Fits}
use Rattle.sip_read.specs.declared.message.Message.TheVariants as messages
use Rattle.sip_read.specs.declared.message.Request.{Request}
use Rattle.sip_read.specs.Calls.{IsCallId}
use Rattle.sip_read.specs.Message.{Reads}
use Rattle.sip_read.specs.Vias.{Hop, via_of}
use Rattle.sip_write.specs.Answer.{AnswerText, answer_text}
use Rattle.sip_write.specs.AnswerAgain.{IsViaField, IsRouteField, IsPartyField, answer_head}
use Rattle.sip_write.specs.ReadAgain.{IsAddr}
use Rattle.sip_write.specs.Status.{code, phrase}

-- the values of a request that an answer or a NOTIFY copies, each in its grammar; top and others are the hops of its Via values
pub record IsInGrammar (r : Request) : Type 0 where
  pub top : Hop
  pub others : List Hop
  pub vias : r.head.vias ≡ top.text ∷ map (λ h. h.text) others
  pub top_via : r.head.top ≡ via_of top
  pub is_top : IsViaField top
  pub are_others : All IsViaField others
  pub from : IsPartyField r.head.from
  pub to : IsPartyField r.head.to
  pub call_id : IsCallId r.head.call_id
  pub number : r.head.cseq < 2 ^ 31
  pub method : IsWord class.Token r.head.cseq_method
  pub record_routes : All IsRouteField r.record_routes
  pub require : All IsToken r.require
  pub contact : (uri : List ℕ) → r.contact ≡ field.Value uri → IsWord class.Uri uri

-- what is read stands in header lines, in its grammar
abbrev pub WhatIsReadIsInItsGrammar : Type 0
WhatIsReadIsInItsGrammar = (bytes : List ℕ) (r : Request) → Reads bytes (messages.Request r) → IsInGrammar r

-- an answer to this request: what it copies is the request's, and what it adds is in its grammar
pub record IsAnswerTo (r : Request) (a : AnswerText) : Type 0 where
  pub head : a.head ≡ r.head
  pub record_routes : (a.record_routes ≡ []) ⊎ (a.record_routes ≡ r.record_routes)
  pub source : IsAddr a.source
  pub tag : IfSome a.tag IsToken
  pub contact : IfSome a.contact IsAddr
  pub expires : IfSome a.expires Fits
  pub min_expires : IfSome a.min_expires Fits
  pub allow : IfSome a.allow (All IsToken)
  pub allow_events : IfSome a.allow_events (All IsToken)
  pub unsupported : IfSome a.unsupported (All IsToken)

-- an answer to a request that was read is, where it fits in a datagram, a response with the same status and the request's head, in which
-- the top Via says the source and a To without a tag has got one
abbrev pub AnswerToWhatWasReadIsReadAgain : Type 0
AnswerToWhatWasReadIsReadAgain =
    (bytes : List ℕ) (r : Request) (a : AnswerText) → Reads bytes (messages.Request r) → IsAnswerTo r a → length (answer_text a) ≤ 65535
    → (top : Hop) × (others : List Hop) × (r.head.vias ≡ top.text ∷ map (λ h. h.text) others) × (r.head.top ≡ via_of top)
    × Reads (answer_text a) (messages.Response (record { status = code a.status; reason = phrase a.status; head = answer_head a top others }))
