-- The layout of a NOTIFY (RFC 6665 section 4.2.2).
use Rattle.std.specs.Prelude.{ℕ, List, [], ◌∷◌, ◌++◌, map, length, Some, codes, decimal}
use Rattle.event_headers.specs.Values.{EventValue, StateValue}
use Rattle.event_headers.specs.Written.{event_text, state_text, parameter_text}
use Rattle.sip_text.specs.declared.address.Addr.{Addr}
use Rattle.sip_text.specs.Addresses.{addr_text}
use Rattle.sip_write.specs.Lines.{joined, header, contact_text, call_lines}

pub record NotifyText : Type 0 where
  -- the Request-URI: the subscriber's Contact
  pub target : List ℕ
  -- the route set, in order
  pub routes : List (List ℕ)
  -- the address of this server
  pub me : Addr
  -- the party of this server, without its tag
  pub local : List ℕ
  pub local_tag : List ℕ
  -- the party of the subscriber, as written
  pub remote : List ℕ
  pub call_id : List ℕ
  pub number : ℕ
  pub event : EventValue
  pub state : StateValue
  pub content_type : List ℕ
  pub body : List ℕ

-- a request line (RFC 3261 section 7.1)
abbrev pub request_line : List ℕ → List ℕ
request_line target = codes "NOTIFY " ++ (target ++ codes " SIP/2.0")

-- this server's Via: the branch is made of the local tag and the number (RFC 3261 section 8.1.1.7)
abbrev pub via_text : NotifyText → List ℕ
via_text n = codes "SIP/2.0/UDP " ++ (addr_text n.me ++ (codes ";branch=z9hG4bK-" ++ (n.local_tag ++ (codes "-" ++ decimal n.number))))

-- what every request begins with (RFC 3261 section 8.1.1)
abbrev pub opening_lines : NotifyText → List (List ℕ)
opening_lines n = request_line n.target ∷ header (codes "Via") (via_text n) ∷ header (codes "Max-Forwards") (codes "70") ∷ []

-- a request within the dialog (RFC 3261 section 12.2.1.1), and this server's Contact
abbrev pub dialog_lines : NotifyText → List (List ℕ)
dialog_lines n =
    header (codes "From") (n.local ++ parameter_text (codes "tag") (Some n.local_tag))
    ∷ header (codes "To") n.remote
    ∷ (call_lines n.call_id n.number (codes "NOTIFY") ++ header (codes "Contact") (contact_text n.me) ∷ [])

-- the event and the state of the subscription (RFC 6665 sections 8.2.1 and 8.2.3)
abbrev pub event_lines : NotifyText → List (List ℕ)
event_lines n = header (codes "Event") (event_text n.event) ∷ header (codes "Subscription-State") (state_text n.state) ∷ []

-- the lines of the body (RFC 3261 section 7.4), and the empty line
abbrev pub body_lines : NotifyText → List (List ℕ)
body_lines n = header (codes "Content-Type") n.content_type ∷ header (codes "Content-Length") (decimal (length n.body)) ∷ [] ∷ []

unfoldable pub notify_lines : NotifyText → List (List ℕ)
notify_lines n = opening_lines n ++ (map (header (codes "Route")) n.routes ++ (dialog_lines n ++ (event_lines n ++ body_lines n)))

unfoldable pub notify_text : NotifyText → List ℕ
notify_text n = joined (notify_lines n) ++ n.body
