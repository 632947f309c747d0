-- What the reader of the network's arguments computes, piece by piece. No public contract cites this.
use Rattle.std.specs.Prelude.{◌≡◌, ℕ, Bool, true, false, List, [], ◌∷◌, length, ◌==◌, if◌then◌else◌, Option, Some, None, Result, Ok, Err, codes, bytes_eq}
use Rattle.arguments.specs.declared.udp_arguments.UdpArguments.{UdpArguments}
use Rattle.arguments.specs.declared.udp_arguments.UdpNumbers.{UdpNumbers}
use Rattle.arguments.specs.declared.arguments.ArgumentsError.{ArgumentsError}
use Rattle.arguments.specs.declared.arguments.ArgumentsError.TheVariants as error
use Rattle.arguments.specs.Arguments.{zero_seed}
use Rattle.arguments.specs.Values.{seed_bytes, between}
use Rattle.sip_text.specs.Reading.{◌>>=◌, plain_up_to}

unfoldable pub port_of : List ℕ → Option ℕ
port_of word = do
  n ← plain_up_to 65535 word
  if n == 0 then None else Some n

unfoldable pub read_numbers : List ℕ → List ℕ → List ℕ → List ℕ → Option UdpNumbers
read_numbers port control_port workers count = do
  p ← port_of port
  c ← port_of control_port
  n ← between 1 256 workers
  k ← plain_up_to 4294967295 count
  Some (record { port = p; control_port = c; workers = n; count = k })

-- the arguments with these numbers
abbrev pub with_numbers : List ℕ → Bool → List (List ℕ) → UdpNumbers → UdpArguments
with_numbers seed stop mailboxes n = record {
  seed = seed;
  stop = stop;
  port = n.port;
  control_port = n.control_port;
  workers = n.workers;
  count = n.count;
  mailboxes = mailboxes;
}

-- the numbers and the mailboxes
unfoldable pub udp_crew_at : List ℕ → Bool → List (List ℕ) → Option UdpArguments
udp_crew_at seed stop [] = None
udp_crew_at seed stop (a ∷ []) = None
udp_crew_at seed stop (a ∷ b ∷ []) = None
udp_crew_at seed stop (a ∷ b ∷ c ∷ []) = None
udp_crew_at seed stop (port ∷ control_port ∷ workers ∷ count ∷ mailboxes) = do
  n ← read_numbers port control_port workers count
  if length mailboxes == 0 then None else Some (with_numbers seed stop mailboxes n)

-- what stands behind the seed
unfoldable pub udp_stop_at : List ℕ → List (List ℕ) → Option UdpArguments
udp_stop_at seed [] = udp_crew_at seed false []
udp_stop_at seed (flag ∷ words) = if bytes_eq flag (codes "--stop") then udp_crew_at seed true words else udp_crew_at seed false (flag ∷ words)

-- what stands behind the first word
unfoldable pub udp_at : List (List ℕ) → Option UdpArguments
udp_at [] = udp_stop_at zero_seed []
udp_at (word ∷ []) = udp_stop_at zero_seed (word ∷ [])
udp_at (flag ∷ digits ∷ words) =
    if bytes_eq flag (codes "--seed") then (seed_bytes digits >>= λ seed. udp_stop_at seed words) else udp_stop_at zero_seed (flag ∷ digits ∷ words)

unfoldable pub read_udp_arguments : List (List ℕ) → Option UdpArguments
read_udp_arguments [] = None
read_udp_arguments (program ∷ words) = if bytes_eq program (codes "udp") then udp_at words else None

abbrev pub UdpArgumentsFail : ArgumentsError → Option UdpArguments → Type 0
UdpArgumentsFail error.NoMemory read = Unit {0}
UdpArgumentsFail error.Bad read = read ≡ None

-- what a function returned is what the function on lists gives, unless memory ran out
abbrev pub GivesUdpArguments : Result UdpArguments ArgumentsError → Option UdpArguments → Type 0
GivesUdpArguments (Ok a) read = read ≡ Some a
GivesUdpArguments (Err e) read = UdpArgumentsFail e read
