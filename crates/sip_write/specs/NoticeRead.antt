-- What a reader of messages finds in a NOTIFY of a dialog that a request made which was read.
use Rattle.std.specs.Prelude.{◌≡◌, ℕ, ◌<◌, ◌≤◌, ◌^◌, ◌⊎◌, List, length, None}
use Rattle.sip_text.specs.declared.field.Field.TheVariants as field
use Rattle.sip_text.specs.Grammar.{IsToken}
use Rattle.event_headers.specs.Headers.{IsEventValue, IsStateValue}
use Rattle.sip_read.specs.declared.message.Message.TheVariants as messages
use Rattle.sip_read.specs.declared.message.Request.{Request}
use Rattle.sip_read.specs.Message.{Reads}
use Rattle.sip_write.specs.Notify.{NotifyText, notify_text}
use Rattle.sip_write.specs.ReadAgain.{IsAddr, IsFieldText, notify_request}

-- A NOTIFY of the dialog that r made (RFC 3261 section 12.1.1), to the Contact of s: of r itself, or of the last request in the dialog that
-- has one (section 12.2). The event is that of r, or a REFER's. What else the NOTIFY says is in its grammar.
pub record IsNotifyFor (r s : Request) (n : NotifyText) : Type 0 where
  pub first : r.head.to.tag ≡ None
  pub target : s.contact ≡ field.Value n.target
  pub routes : n.routes ≡ r.record_routes
  pub local : n.local ≡ r.head.to.text
  pub remote : n.remote ≡ r.head.from.text
  pub call_id : n.call_id ≡ r.head.call_id
  pub event : (r.event ≡ field.Value n.event) ⊎ IsEventValue n.event
  pub me : IsAddr n.me
  pub local_tag : IsToken n.local_tag
  pub number : n.number < 2 ^ 31
  pub state : IsStateValue n.state
  pub content_type : IsFieldText n.content_type

-- Where both requests were read, it is, where it fits in a datagram, a NOTIFY with its values to whom the dialog is with.
abbrev pub NotifyToWhomWasReadIsReadAgain : Type 0
NotifyToWhomWasReadIsReadAgain =
    (bytes last : List ℕ) (r s : Request) (n : NotifyText) → Reads bytes (messages.Request r) → Reads last (messages.Request s)
    → IsNotifyFor r s n → length (notify_text n) ≤ 65535 → Reads (notify_text n) (messages.Request (notify_request n r.head.from))
