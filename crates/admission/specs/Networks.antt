-- Ranges of IPv4 addresses.
use Rattle.std.specs.Prelude.{ℕ, ◌-◌, ◌/◌, ◌^◌, Bool, ◌==◌, nat_lt, if◌then◌else◌, List, Option, Some, None}
use Rattle.std.specs.Int.{w32, from_be_bytes}
use Rattle.std.specs.Str.{byte}
pub use Rattle.sip_text.specs.Reading.{◌>>=◌, cut_at, octet_at, ip_of, plain_up_to}
use Rattle.admission.specs.declared.network.Network.{Network}

-- an address as a number, whose first octet has the highest bits
abbrev pub number : List ℕ → ℕ
number ip = from_be_bytes w32 ip

-- the first bits of an address, so many
abbrev pub prefix : ℕ → List ℕ → ℕ
prefix length ip = number ip / 2 ^ (32 - length)

-- an address is of a network where its first bits are
abbrev pub contains : Network → List ℕ → Bool
contains n ip = prefix n.length ip == prefix n.length n.ip

-- `a.b.c.d/length`
unfoldable pub network : List ℕ → Option Network
network text = do
  cut ← cut_at (byte "/") text
  ip ← ip_of cut.0
  length ← plain_up_to 255 cut.1
  if nat_lt 32 length then None else Some (record { ip = ip; length = length })
