-- The layout of an answer (RFC 3261 section 8.2.6).
use Rattle.std.specs.Prelude.{ℕ, Bool, true, false, List, [], ◌∷◌, ◌++◌, map, Option, Some, None, option_map, codes, decimal}
use Rattle.event_headers.specs.Written.{comma_joined, parameter_text}
use Rattle.sip_text.specs.declared.address.Addr.{Addr}
use Rattle.sip_read.specs.declared.message.Head.{Head}
use Rattle.sip_read.specs.declared.message.Via.{Via}
use Rattle.sip_write.specs.declared.status.Status.{Status}
use Rattle.sip_write.specs.Lines.{joined, header, header_of, contact_text, call_lines}
use Rattle.sip_write.specs.Status.{code, phrase}
use Rattle.sip_write.specs.Via.{top_via_text}

pub record AnswerText : Type 0 where
  -- that of the request
  pub head : Head
  -- where the request came from
  pub source : Addr
  pub status : Status
  -- the tag that a To without one gets
  pub tag : Option (List ℕ)
  pub record_routes : List (List ℕ)
  pub contact : Option Addr
  pub expires : Option ℕ
  pub min_expires : Option ℕ
  pub allow : Option (List (List ℕ))
  pub allow_events : Option (List (List ℕ))
  pub unsupported : Option (List (List ℕ))
  -- whether a REFER was granted without a subscription
  pub without_subscription : Bool

-- one without any of the optional lines. A To without a tag gets this one
abbrev pub bare : Head → Addr → Option (List ℕ) → Status → AnswerText
bare head source tag status = record {
  head = head;
  source = source;
  status = status;
  tag = tag;
  record_routes = [];
  contact = None;
  expires = None;
  min_expires = None;
  allow = None;
  allow_events = None;
  unsupported = None;
  without_subscription = false;
}

-- a status line (RFC 3261 section 7.2)
abbrev pub status_line : Status → List ℕ
status_line s = codes "SIP/2.0 " ++ (decimal (code s) ++ (codes " " ++ phrase s))

-- the Via values in order, the top one rewritten (RFC 3261 section 8.2.6.2)
abbrev pub via_lines : Addr → Via → List (List ℕ) → List (List ℕ)
via_lines source top [] = []
via_lines source top (first ∷ others) = header (codes "Via") (top_via_text source top first) ∷ map (header (codes "Via")) others

-- a To keeps the tag that it has (RFC 3261 section 8.2.6.2)
abbrev pub added_tag : Option (List ℕ) → Option (List ℕ) → Option (List ℕ)
added_tag (Some own) tag = None
added_tag None tag = tag

abbrev pub dialog_lines : AnswerText → List (List ℕ)
dialog_lines a =
    header (codes "From") a.head.from.text
    ∷ header (codes "To") (a.head.to.text ++ parameter_text (codes "tag") (added_tag a.head.to.tag a.tag))
    ∷ call_lines a.head.call_id a.head.cseq a.head.cseq_method

-- `Refer-Sub: false` tells that a REFER was granted without a subscription (RFC 4488 section 4)
abbrev pub refer_sub_text : Bool → Option (List ℕ)
refer_sub_text false = None
refer_sub_text true = Some (codes "false")

-- the lines that only some answers have (RFC 3261 sections 12.1.1, 21.4.17, 8.2.1 and 8.2.2.3, RFC 6665 sections 4.2.1.1 and 8.3.2,
-- RFC 4488 section 4)
abbrev pub option_lines : AnswerText → List (List ℕ)
option_lines a =
    header_of (codes "Contact") (option_map contact_text a.contact)
    ++ (header_of (codes "Expires") (option_map decimal a.expires)
    ++ (header_of (codes "Min-Expires") (option_map decimal a.min_expires)
    ++ (header_of (codes "Allow") (option_map comma_joined a.allow)
    ++ (header_of (codes "Allow-Events") (option_map comma_joined a.allow_events)
    ++ (header_of (codes "Unsupported") (option_map comma_joined a.unsupported)
    ++ header_of (codes "Refer-Sub") (refer_sub_text a.without_subscription))))))

unfoldable pub answer_lines : AnswerText → List (List ℕ)
answer_lines a =
    status_line a.status
    ∷ (via_lines a.source a.head.top a.head.vias
    ++ (map (header (codes "Record-Route")) a.record_routes
    ++ (dialog_lines a
    ++ (option_lines a
    ++ header (codes "Content-Length") (codes "0") ∷ [] ∷ []))))

unfoldable pub answer_text : AnswerText → List ℕ
answer_text a = joined (answer_lines a)
