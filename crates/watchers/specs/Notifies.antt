-- What is known of a subscription with a NOTIFY of it. Moments are milliseconds.
use Rattle.std.specs.Prelude.{ℕ, ◌+◌, ◌*◌, List, length, take, nat_le, Option, Some, None, option_map, unwrap_or, codes, if◌then◌else◌}
use Rattle.std.specs.List.{prefix_len}
use Rattle.std.specs.Option.{option_map_or}
use Rattle.std.specs.Int.{w32, from_be_bytes}
use Rattle.std.specs.Str.{byte}
use Rattle.sip_text.specs.declared.address.Addr.{Addr}
use Rattle.sip_text.specs.declared.scan.Class.TheVariants as class
use Rattle.sip_text.specs.Bytes.{is_in}
use Rattle.sip_text.specs.Reading.{◌>>=◌, cut_at, begins, quoted_at, word_of}
use Rattle.watchers.specs.declared.notify.Known.{Known as Borrowed}
use Rattle.watchers.specs.declared.notify.TheConstants.{LONGEST}
use Rattle.watchers.specs.declared.row.Watcher.{Watcher}

-- The subscriber's address as its From has it, its Contact, which is the remote target of the dialog (RFC 3261 section 12.1.1), the dialog's
-- Call-ID, who showed a password for it, the mailbox or the tag of the transfer that it watches, and how many seconds are left
pub record Known : Type 0 where
  pub watcher : List ℕ
  pub contact : List ℕ
  pub call_id : List ℕ
  pub user : Option (List ℕ)
  pub resource : List ℕ
  pub seconds : ℕ

abbrev pub known_seen : Borrowed → Known
known_seen k =
    record { watcher = k.watcher.now; contact = k.contact.now; call_id = k.call_id.now; user = option_map (λ name. name.now) k.user; resource = k.resource.now; seconds = k.seconds }

-- ---- a From or a To (RFC 3261 section 20.10)

-- without the display name at the front, if that is quoted
unfoldable pub unquoted : List ℕ → Option (List ℕ)
unquoted party = if begins (byte "\"") party then (quoted_at party >>= λ cut. Some cut.1) else Some party

abbrev pub bare_or : List ℕ → Option (List ℕ × List ℕ) → Option (List ℕ)
bare_or rest None = Some (take (prefix_len (is_in class.Bare) rest) rest)
bare_or rest (Some cut) = cut_at (byte ">") cut.1 >>= λ inner. Some inner.0

-- the URI: in angle brackets, or bare
unfoldable pub uri : List ℕ → Option (List ℕ)
uri party = unquoted party >>= λ rest. bare_or rest (cut_at (byte "<") rest)

-- ---- who watches what

-- a word of a row; `-` for one that is longer than a row has room for, or no URI
abbrev pub word : List ℕ → List ℕ
word bytes = if nat_le (length bytes) LONGEST then unwrap_or (word_of (is_in class.Uri) bytes) (codes "-") else codes "-"

abbrev pub word_or_none : Option (List ℕ) → List ℕ
word_or_none bytes = option_map_or word bytes (codes "-")

abbrev pub watcher : List ℕ → List ℕ
watcher party = word_or_none (uri party)

-- ---- until when (RFC 6665 section 8.2.3)

abbrev pub until : ℕ → ℕ → ℕ
until now seconds = now + 1000 * seconds

-- who asked for a subscription: an IPv4 address as a number, whose first octet has the highest bits
abbrev pub source : Addr → ℕ
source addr = from_be_bytes w32 addr.ip

-- the row that begins with the NOTIFY with this number, which went out at this moment to this address
abbrev pub first_row : ℕ → ℕ → Addr → Known → Watcher
first_row now number to known =
    record { watcher = watcher known.watcher; contact = word known.contact; call_id = known.call_id; user = known.user; mailbox = word known.resource; source = source to; to = to; sent = number; answered = 0; code = 0; since = now; until = until now known.seconds }
