-- The line of a record for machines.
use Rattle.std.specs.Prelude.{◌≡◌, ◌≢◌, ℕ, Bool, not, ◌&&◌, ◌==◌, nat_lt, List, ◌++◌, length, codes, if◌then◌else◌, Option}
use Rattle.std.specs.List.{AllByRecursion, list_any}
use Rattle.std.specs.Str.{byte}
use Rattle.json.specs.Print.{print}
use Rattle.log_lines.specs.declared.record.Record.{Record}
use Rattle.log_lines.specs.declared.record.TheConstants.{LOST}
use Rattle.log_lines.specs.Objects.{object}

-- it ends with its only line feed
abbrev pub IsOneLine : List ℕ → Type 0
IsOneLine octets = (front : List ℕ) × (octets ≡ front ++ codes "\n") × AllByRecursion (λ octet. octet ≢ byte "\n") front

-- it has no line feed, and room for one
abbrev pub fits : List ℕ → Bool
fits octets = nat_lt (length octets) 4096 && not (list_any (λ octet. octet == 10) octets)

-- such an object with its line feed, or what stands for one that doesn't fit
abbrev pub ended : List ℕ → List ℕ
ended octets = if fits octets then octets ++ codes "\n" else LOST.now

abbrev pub line : Option (List ℕ) → Record → List ℕ
line time r = ended (print (object time r))
