-- What a reader of messages finds in what is written.
use Rattle.std.specs.Prelude.{◌≡◌, ℕ, Bool, not, ◌==◌, ◌<◌, ◌≤◌, ◌^◌, false, List, [], ◌∷◌, ◌++◌, length, All, Some, None, codes, decimal, slice_index}
use Rattle.std.specs.Str.{byte, IsUtf8}
use Rattle.sip_text.specs.declared.field.Field.TheVariants as field
use Rattle.sip_text.specs.declared.scan.Class.TheVariants as class
use Rattle.sip_text.specs.Bytes.{is_in}
use Rattle.sip_text.specs.Grammar.{AllPassing, IsWord, IsTrimmed}
use Rattle.event_headers.specs.Headers.{IsEventValue, IsStateValue}
use Rattle.event_headers.specs.Written.{parameter_text}
use Rattle.sip_text.specs.declared.address.Addr.{Addr}
use Rattle.sip_read.specs.declared.message.Message.TheVariants as messages
use Rattle.sip_read.specs.declared.message.Party.{Party}
use Rattle.sip_read.specs.declared.message.Request.{Request}
use Rattle.sip_read.specs.Addresses.{IsParty}
use Rattle.sip_read.specs.Calls.{IsCallId}
use Rattle.sip_read.specs.Message.{Reads}
use Rattle.sip_read.specs.Vias.{Hop, via_of, IsHop}
use Rattle.sip_text.specs.Addresses.{addr_text}
use Rattle.sip_write.specs.Notify.{NotifyText, notify_text, via_text}
use Rattle.sip_write.specs.Via.{top_via_text}

-- bytes and a port
pub record IsAddr (a : Addr) : Type 0 where
  pub bytes : (i : ℕ) → slice_index a.ip i < 256
  pub port : a.port < 65536

-- a text that stands in a header line as it is (RFC 3261 section 7.3.1): UTF-8 without control characters but HT, and no blank at its ends
pub record IsFieldText (text : List ℕ) : Type 0 where
  pub bytes : AllPassing (is_in class.Line) text
  pub is_text : IsUtf8 text
  pub trimmed : IsTrimmed text

-- the values of a NOTIFY, each in its grammar; remote is the subscriber's party
pub record IsNotify (n : NotifyText) (remote : Party) : Type 0 where
  pub target : IsWord class.Uri n.target
  pub routes : All IsFieldText n.routes
  pub me : IsAddr n.me
  pub local : IsParty n.local (record { text = n.local; tag = None })
  pub local_text : IsFieldText n.local
  pub local_tag : IsWord class.Token n.local_tag
  pub is_remote : IsParty n.remote remote
  pub remote_text : IsFieldText n.remote
  pub call_id : IsCallId n.call_id
  pub number : n.number < 2 ^ 31
  pub event : IsEventValue n.event
  pub state : IsStateValue n.state
  pub content_type : IsFieldText n.content_type

-- the value of the branch of this server's Via
abbrev pub branch_text : NotifyText → List ℕ
branch_text n = codes "z9hG4bK-" ++ (n.local_tag ++ (codes "-" ++ decimal n.number))

-- the request with these values
abbrev pub notify_request : NotifyText → Party → Request
notify_request n remote = record {
  method = codes "NOTIFY";
  uri = n.target;
  head = record {
    vias = via_text n ∷ [];
    top = record { sent_by = addr_text n.me; branch = Some (branch_text n); bare_rport = false };
    from = record { text = n.local ++ parameter_text (codes "tag") (Some n.local_tag); tag = Some n.local_tag };
    to = remote;
    call_id = n.call_id;
    cseq = n.number;
    cseq_method = codes "NOTIFY";
  };
  event = field.Value n.event;
  expires = field.Absent;
  accept = field.Absent;
  contact = field.Value (codes "sip:" ++ addr_text n.me);
  refer_to = field.Absent;
  refer_sub = field.Absent;
  require = [];
  record_routes = [];
  body = n.body;
}

-- a written NOTIFY that fits in a datagram is that request
abbrev pub NotifyIsReadAgain : Type 0
NotifyIsReadAgain =
    (n : NotifyText) (remote : Party) → IsNotify n remote → length (notify_text n) ≤ 65535
    → Reads (notify_text n) (messages.Request (notify_request n remote))

-- ---- what the bytes of a NOTIFY fix

-- no CR
abbrev pub is_kept_in_line : ℕ → Bool
is_kept_in_line b = not (b == byte "\r")

-- a text that does not end its line
abbrev pub IsOneLine : List ℕ → Type 0
IsOneLine text = AllPassing is_kept_in_line text

-- the values of a NOTIFY, none of which ends its line; a body is shorter than 2 ^ 64 bytes
pub record KeepsItsLines (n : NotifyText) : Type 0 where
  pub target : IsOneLine n.target
  pub routes : All IsOneLine n.routes
  pub me : IsAddr n.me
  pub local : IsOneLine n.local
  pub local_tag : IsOneLine n.local_tag
  pub remote : IsOneLine n.remote
  pub call_id : IsOneLine n.call_id
  pub number : n.number < 2 ^ 32
  pub event : IsEventValue n.event
  pub state : IsStateValue n.state
  pub content_type : IsOneLine n.content_type
  pub body : length n.body < 2 ^ 64

-- what NOTIFYs tell of the subscription, apart from the texts of this server: its address, its party and tag, and the route set
pub record TellsTheSame (a b : NotifyText) : Type 0 where
  pub target : a.target ≡ b.target
  pub remote : a.remote ≡ b.remote
  pub call_id : a.call_id ≡ b.call_id
  pub number : a.number ≡ b.number
  pub event : a.event ≡ b.event
  pub state : a.state ≡ b.state
  pub content_type : a.content_type ≡ b.content_type
  pub body : a.body ≡ b.body

-- two NOTIFYs of the same bytes tell the same
abbrev pub NotifyFixesItsValues : Type 0
NotifyFixesItsValues = (a b : NotifyText) → KeepsItsLines a → KeepsItsLines b → notify_text a ≡ notify_text b → TellsTheSame a b

-- ---- the top Via of an answer

-- a Via value that a reader takes as this hop: what stands in the answer is a Via value with the same sent-by and branch, and without a
-- bare rport
abbrev pub TopViaIsReadAgain : Type 0
TopViaIsReadAgain =
    (source : Addr) (text : List ℕ) (h : Hop) → IsAddr source → IsHop text h
    → IsHop (top_via_text source (via_of h) text) (record { text = top_via_text source (via_of h) text; sent_by = h.sent_by; branch = h.branch; bare_rport = false })
