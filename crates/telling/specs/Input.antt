-- The lines of an input.
--
--   input = *(line LF) [line]         ; a line has no LF, the last one without its LF is not empty
use Rattle.std.specs.Prelude.{◌≡◌, ◌≢◌, ◌≤◌, ◌<◌, ◌⊎◌, ℕ, Bool, true, false, List, [], ◌++◌, length, codes, Option}
use Rattle.std.specs.List.{AllByRecursion}
use Rattle.std.specs.Str.{byte}
use Rattle.std.specs.Io.KnownBytes.{Consumes, IsAtEnd}

-- no octet of the line is a line feed
abbrev pub HasNoLineFeed : List ℕ → Type 0
HasNoLineFeed line = AllByRecursion (λ octet. octet ≢ byte "\n") line

-- the input begins with this line and is what follows it from then on
abbrev pub IsCutOff : Option (List ℕ) → Option (List ℕ) → List ℕ → Type 0
IsCutOff old new line =
    HasNoLineFeed line × (Consumes old new (line ++ codes "\n") ⊎ ((line ≢ []) × Consumes old new line × IsAtEnd new))

-- a line may be asked: with its token it is no longer than a datagram
abbrev pub Fits : List ℕ → Type 0
Fits line = length line ≤ 65489

-- what is kept of a line: all of it where it fits, and else that it doesn't
abbrev pub Holds : List ℕ → List ℕ → Bool → Type 0
Holds line octets false = (octets ≡ line) × Fits line
Holds line octets true = 65489 < length line
