-- The lines of a page, each with its LF.
--
--   UNREAD <number> <error>
--   WORKER <worker> <handled> <made> closed
--   ANSWER <address> <length> LF octets LF
--   NOTIFY <tag> <number> <address> <length> LF octets LF
--   START <tag> <refer_to>
use Rattle.std.specs.Prelude.{ℕ, List, ◌++◌, length, codes, decimal}
use Rattle.sip_text.specs.declared.address.Addr.{Addr}
use Rattle.sip_text.specs.Addresses.{addr_text}
use Rattle.scripts.specs.Script.{lf}

-- a SIP block that can't be read: its number among the SIP blocks, from 1, and the number of the error
abbrev pub unread_text : ℕ → ℕ → List ℕ
unread_text number error = codes "UNREAD " ++ (decimal number ++ (codes " " ++ (decimal error ++ lf)))

-- a worker that ended: how many events it handled, and how many outs it made
abbrev pub worker_text : ℕ → ℕ → ℕ → List ℕ
worker_text worker handled made =
    codes "WORKER " ++ (decimal worker ++ (codes " " ++ (decimal handled ++ (codes " " ++ (decimal made ++ (codes " closed" ++ lf))))))

-- octets behind their length
abbrev pub octets_text : List ℕ → List ℕ
octets_text octets = decimal (length octets) ++ (lf ++ (octets ++ lf))

-- an answer to a request, and where it goes
abbrev pub answer_text : Addr → List ℕ → List ℕ
answer_text addr octets = codes "ANSWER " ++ (addr_text addr ++ (codes " " ++ octets_text octets))

-- a NOTIFY: its local tag, its number, and where it goes
abbrev pub notify_text : List ℕ → ℕ → Addr → List ℕ → List ℕ
notify_text tag number addr octets =
    codes "NOTIFY " ++ (tag ++ (codes " " ++ (decimal number ++ (codes " " ++ (addr_text addr ++ (codes " " ++ octets_text octets))))))

-- a transfer that begins: its tag, and the address that it goes to
abbrev pub start_text : List ℕ → List ℕ → List ℕ
start_text tag refer_to = codes "START " ++ (tag ++ (codes " " ++ (refer_to ++ lf)))
