-- A line by itself, as a datagram has it.
use Rattle.std.specs.Prelude.{ℕ, List, length, ◌==◌, if◌then◌else◌, Option, Some, None}
use Rattle.std.specs.Str.{byte}
use Rattle.sip_text.specs.Reading.{cut_at}

-- what is left of bytes that were cut at their first LF: it may only stand last
abbrev pub ended : Option (List ℕ × List ℕ) → List ℕ → Option (List ℕ)
ended None octets = Some octets
ended (Some cut) octets = if length cut.1 == 0 then Some cut.0 else None

-- the line without the LF at its end
unfoldable pub bare_line : List ℕ → Option (List ℕ)
bare_line octets = ended (cut_at (byte "\n") octets) octets
