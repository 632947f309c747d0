-- A client transaction of a NOTIFY over UDP, and its timers (RFC 3261 section 17.1.2.2). Moments and times are milliseconds.
use Rattle.std.specs.Prelude.{ℕ, ◌+◌, ◌*◌, Bool, false, ◌&&◌, ◌==◌, nat_le, min, List, bytes_eq, Option, Some, None}
use Rattle.sip_text.specs.declared.address.Addr.{Addr}
use Rattle.transactions.specs.declared.open.Open.{Open}
use Rattle.transactions.specs.declared.open.Phase.{Phase}
use Rattle.transactions.specs.declared.open.Phase.TheVariants.{Trying, Proceeding}
use Rattle.transactions.specs.declared.open.TheConstants.{T1, T2, PATIENCE}

abbrev pub has_name : List ℕ → ℕ → Open → Bool
has_name tag number t = bytes_eq t.tag tag && (t.number == number)

-- It was sent: timer E is set to T1.
unfoldable pub sent : ℕ → ℕ → List ℕ → ℕ → Addr → List ℕ → Open
sent serial now tag number to bytes =
    record { serial = serial; tag = tag; number = number; to = to; bytes = bytes; first = now; sends = 1; interval = T1; next = now + T1; phase = Trying }

-- A provisional answer came.
unfoldable pub proceeding : Open → Open
proceeding t = record t { phase = Proceeding }

-- The next interval of timer E: twice as long, up to T2; T2 where a provisional answer came.
abbrev pub longer : Phase → ℕ → ℕ
longer Trying interval = min T2 (2 * interval)
longer Proceeding interval = T2

-- It is sent again, and timer E is set anew.
unfoldable pub again : ℕ → Open → Open
again now t = record t { sends = t.sends + 1; interval = longer t.phase t.interval; next = now + longer t.phase t.interval }

-- Timer F has fired: it is given up.
abbrev pub is_over : ℕ → Open → Bool
is_over now t = nat_le (t.first + PATIENCE) now

-- the moment at which timer E or timer F fires
abbrev pub alarm : Open → ℕ
alarm t = min t.next (t.first + PATIENCE)

abbrev pub is_named : List ℕ → ℕ → Option Open → Bool
is_named tag number None = false
is_named tag number (Some t) = has_name tag number t

abbrev pub has_tag : List ℕ → Open → Bool
has_tag tag t = bytes_eq t.tag tag

abbrev pub is_tagged : List ℕ → Option Open → Bool
is_tagged tag None = false
is_tagged tag (Some t) = has_tag tag t
