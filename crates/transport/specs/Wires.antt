-- What a wire tells of the datagrams that it gave and took, where it tells them.
use Rattle.std.specs.Prelude.{◌≡◌, ℕ, List, [], ◌∷◌, ◌++◌, take, Option, Some, None, Result, Ok, Err}
use Rattle.sip_text.specs.declared.address.Addr.{Addr}
use Rattle.transport.specs.declared.datagram.Datagram.{Datagram}

abbrev pub datagram : Addr → List ℕ → Datagram
datagram peer octets = record { peer = peer; octets = octets }

-- a list that is told grows at its end by just these
abbrev pub Grows : {T : Type 0} → Option (List T) → Option (List T) → List T → Type 0
Grows None new more = Unit {0}
Grows (Some xs) None more = ⊥
Grows (Some xs) (Some ys) more = ys ≡ xs ++ more

-- a wire gave the datagram of which the call answers the length and the source: so many of these bytes, the first ones. After
-- a fault it gave none
abbrev pub Gives : {E : Type 0} → Option (List Datagram) → Option (List Datagram) → List ℕ → Result (ℕ × Addr) E → Type 0
Gives old new buffer (Ok r) = Grows old new (datagram r.1 (take r.0 buffer) ∷ [])
Gives old new buffer (Err e) = Grows old new []

-- a wire took this datagram. After a fault it took none
abbrev pub Takes : {T E : Type 0} → Option (List Datagram) → Option (List Datagram) → Addr → List ℕ → Result T E → Type 0
Takes old new to octets (Ok x) = Grows old new (datagram to octets ∷ [])
Takes old new to octets (Err e) = Grows old new []
