-- Header lines as they stand on the wire, where a line may be continued by others (RFC 3261 section 7.3.1).
use Rattle.std.specs.Prelude.{◌≡◌, ℕ, false, List, [], ◌∷◌, ◌++◌, reverse}
use Rattle.std.specs.Str.{byte}
use Rattle.sip_text.specs.declared.scan.Class.TheVariants as class
use Rattle.sip_text.specs.Bytes.{is_in, is_space}
use Rattle.sip_text.specs.Grammar.{AllPassing, AreSpaces, IsWord, Stops}

-- what a header line on the wire says: itself, where it stands in one piece; where it is continued, the CRLF and the spaces on both sides of it say one SP
--   LWS = [*WSP CRLF] 1*WSP
pub data Unfolds : List ℕ → List ℕ → Type 0 where
  unbroken : {line : List ℕ} → AllPassing (is_in class.Line) line → Unfolds line line
  continued : {wire line : List ℕ} (first before left right after : List ℕ) → Unfolds first (before ++ left) → Stops (is_in class.Space) (reverse before) → AreSpaces left
      → IsWord class.Space right → Stops (is_in class.Space) after → AllPassing (is_in class.Line) after
      → (wire ≡ first ++ byte "\r" ∷ byte "\n" ∷ (right ++ after)) → (line ≡ before ++ byte " " ∷ after) → Unfolds wire line

-- it begins with another byte than SP and HT
abbrev pub BeginsLine : List ℕ → Type 0
BeginsLine line = (x : ℕ) × (xs : List ℕ) × (line ≡ x ∷ xs) × (is_space x ≡ false)

-- header lines, each with its CRLF
abbrev pub AreLines : List ℕ → List (List ℕ) → Type 0
AreLines wire [] = wire ≡ []
AreLines wire (line ∷ lines) = (first others : List ℕ) × Unfolds first line × BeginsLine line × AreLines others lines × (wire ≡ first ++ byte "\r" ∷ byte "\n" ∷ others)

-- header lines, an empty line, and the rest
--   *(line CRLF) CRLF rest
abbrev pub HasLines : List ℕ → List (List ℕ) → List ℕ → Type 0
HasLines text lines rest = (wire : List ℕ) × AreLines wire lines × (text ≡ wire ++ byte "\r" ∷ byte "\n" ∷ rest)
