-- What the system dropped at a socket, as Linux tells it in /proc/self/net/udp.
use Rattle.std.specs.Prelude.{◌≡◌, ◌⊎◌, ◌-◌, ◌^◌, ℕ, true, false, List, [], ◌++◌, codes, decimal}
use Rattle.std.specs.Fmt.{digits, format_spec, padded_integral}
use Rattle.std.specs.Int.{w32, from_le_bytes}
use Rattle.sip_text.specs.declared.address.Addr.{Addr}

-- a number in so many hexadecimal digits, or more where it needs more
abbrev pub hex_word : ℕ → ℕ → List ℕ
hex_word width n = padded_integral (format_spec 32 0 4 width (2 ^ 64 - 1)) false [] (digits 16 true n)

-- a socket's name: its octets as a number of this machine, whose first octet has the lowest bits, and its port
abbrev pub socket_name : Addr → List ℕ
socket_name addr = hex_word 8 (from_le_bytes w32 addr.ip) ++ (codes ":" ++ hex_word 4 addr.port)

-- the line of a counter
abbrev pub count_line : List ℕ → ℕ → List ℕ
count_line counter count = counter ++ (codes " " ++ (decimal count ++ codes "\n"))

-- the text has such a line more, or nothing more, where the system told no count
abbrev pub AddsLine : List ℕ → List ℕ → List ℕ → Type 0
AddsLine counter old new = (new ≡ old) ⊎ ((count : ℕ) × (new ≡ old ++ count_line counter count))
