-- What the laws say.
use Rattle.std.specs.Prelude.{◌≡◌, ℕ, Bool, ◌&&◌, not, ◌==◌, List, [], ◌∷◌, ◌++◌, reverse, codes, is_some}
use Rattle.std.specs.Str.{byte}
use Rattle.sip_text.specs.Bytes.{is_space}
use Rattle.sip_text.specs.Grammar.{AllPassing, Stops, Parameter, IsParameter, AreParameters, has_name}
use Rattle.sip_write.specs.Via.{parts_of, is_received, is_bare_rport}

-- what stands before the parameters of a Via value: no quote, no semicolon, and no blank at its end
abbrev pub is_front_byte : ℕ → Bool
is_front_byte c = not (c == byte "\"") && not (c == byte ";")

pub record IsViaFront (front : List ℕ) : Type 0 where
  pub bytes : AllPassing is_front_byte front
  pub ends : Stops is_space (reverse front)

-- each piece is written of its parameter
abbrev pub ArePieces : List (List ℕ) → List Parameter → Type 0
ArePieces [] [] = Unit {0}
ArePieces [] (p ∷ ps) = ⊥
ArePieces (piece ∷ pieces) [] = ⊥
ArePieces (piece ∷ pieces) (p ∷ ps) = IsParameter piece p × ArePieces pieces ps

-- a Via value of a front and parameters (RFC 3261 section 20.42) is cut into that front and one piece for each parameter
abbrev pub CutsIntoParameters : Type 0
CutsIntoParameters =
    (front behind : List ℕ) (ps : List Parameter) → IsViaFront front → AreParameters behind ps
    → (pieces : List (List ℕ)) × ArePieces pieces ps × (parts_of (front ++ behind) ≡ record { front = front; parameters = pieces })

-- a piece is left out where its parameter has the name `received`, and gets the port where its parameter is an `rport` without a value
abbrev pub TellsItsParameter : Type 0
TellsItsParameter =
    (piece : List ℕ) (p : Parameter) → IsParameter piece p
    → (is_received piece ≡ has_name (codes "received") p) × (is_bare_rport piece ≡ (has_name (codes "rport") p && not (is_some p.value)))
