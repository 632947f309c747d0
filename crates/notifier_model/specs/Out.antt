-- What goes out, with the record that a NOTIFY is written from.
use Rattle.std.specs.Prelude.{ℕ, Bool, List, [], ◌∷◌, if◌then◌else◌, codes, bytes_eq, Option, unwrap_or}
use Rattle.event_headers.specs.Values.{StateValue}
use Rattle.sip_text.specs.declared.address.Addr.{Addr}
use Rattle.sip_write.specs.Notify.{NotifyText, notify_text}
use Rattle.notifier_model.specs.declared.event.Note.{Note}
use Rattle.notifier_model.specs.declared.event.Out.{Out}
use Rattle.notifier_model.specs.declared.event.Out.TheVariants.{Answer, Notify, Start}

pub data Send : Type 0 where
  Answers : (to : Addr) (bytes : List ℕ) → Send
  -- of a subscription that watches this mailbox, or the transfer of its tag
  Notifies : (to : Addr) (mailbox : Option (List ℕ)) (text : NotifyText) → Send
  Starts : (tag refer_to : List ℕ) → Send

abbrev pub is_last : StateValue → Bool
is_last state = bytes_eq state.word (codes "terminated")

-- what a NOTIFY tells its watcher, and what is known of its subscription with it
pub record Notification : Type 0 where
  pub number : ℕ
  pub state : StateValue
  pub body : List ℕ
  pub to : Addr
  -- who watches, what (none: the transfer of its tag), and the remote target and the Call-ID of its dialog
  pub watcher : List ℕ
  pub mailbox : Option (List ℕ)
  pub target : List ℕ
  pub call_id : List ℕ

abbrev pub notification : Addr → Option (List ℕ) → NotifyText → Notification
notification to mailbox n = record {
  number = n.number;
  state = n.state;
  body = n.body;
  to = to;
  watcher = n.remote;
  mailbox = mailbox;
  target = n.target;
  call_id = n.call_id;
}

-- what is noted with the NOTIFY of a subscription with this local tag: a transfer is named by it
abbrev pub note_of : List ℕ → Notification → Note
note_of tag notice = record {
  watcher = notice.watcher;
  resource = unwrap_or notice.mailbox tag;
  target = notice.target;
  call_id = notice.call_id;
  left = notice.state.expires;
}

-- in bytes
unfoldable pub out_of : Send → Out
out_of (Answers to bytes) = Answer to bytes
out_of (Notifies to mailbox n) =
    Notify to n.number (is_last n.state) n.local_tag (note_of n.local_tag (notification to mailbox n)) (notify_text n)
out_of (Starts tag refer_to) = Start tag refer_to

-- ---- the NOTIFYs of one subscription

-- those with this local tag, in order
unfoldable pub notifications : List ℕ → List Send → List Notification
notifications tag [] = []
notifications tag (Answers to bytes ∷ outs) = notifications tag outs
notifications tag (Starts t refer_to ∷ outs) = notifications tag outs
notifications tag (Notifies to mailbox n ∷ outs) =
    if bytes_eq n.local_tag tag then notification to mailbox n ∷ notifications tag outs else notifications tag outs
