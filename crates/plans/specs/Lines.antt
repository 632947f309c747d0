-- Files of lines.
use Rattle.std.specs.Prelude.{◌≡◌, ◌≢◌, ◌⊎◌, ℕ, ◌+◌, List, [], ◌∷◌, ◌++◌, Option, IfSome}
use Rattle.std.specs.Io.BufRead.{first_line, drop_through}

-- the mark that some editors put in front of a file (RFC 3629 section 6)
abbrev pub mark : List ℕ
mark = 239 ∷ 187 ∷ 191 ∷ []

-- the text of the line with this number, from 1 on: the mark is no part of the first line
abbrev pub IsLineText : ℕ → List ℕ → List ℕ → Type 0
IsLineText number line text =
    ((number ≡ 1) × (line ≡ mark ++ text))
    ⊎ ((text ≡ line) × (number ≡ 1 → (rest : List ℕ) → line ≢ mark ++ rest))

-- these are the lines of this text, in order: each ends at a line feed, which is no part of it, or at the end of the text
abbrev pub AreLines : List ℕ → List (List ℕ) → Type 0
AreLines octets [] = octets ≡ []
AreLines octets (line ∷ lines) = (octets ≢ []) × (line ≡ first_line octets) × AreLines (drop_through 10 octets) lines

-- these lines were taken in, one behind the other, the first of them with this number
abbrev pub AreTaken : {T : Type 0} → (T → List ℕ → T → Type 0) → ℕ → List (List ℕ) → T → T → Type 0
AreTaken takes number [] old new = new ≡ old
AreTaken {T} takes number (line ∷ lines) old new =
    (text : List ℕ) × (next : T) × IsLineText number line text × takes old text next × AreTaken takes (number + 1) lines next new

-- lines were taken in, from the first on: where it is known what a reader gives, just the lines of that
pub record IsTaken {T : Type 0} (takes : T → List ℕ → T → Type 0) (given : Option (List ℕ)) (old new : T) : Type 0 where
  pub lines : List (List ℕ)
  pub all : IfSome given (λ octets. AreLines octets lines)
  pub taken : AreTaken takes 1 lines old new
