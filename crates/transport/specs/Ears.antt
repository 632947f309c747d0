-- What a wire that looks up while it waits gave, and how its receives failed.
use Rattle.std.specs.Prelude.{ℕ, max, Bool, false, List, [], ◌∷◌, take, Option, Some, None, Result, Ok, Err, ◌==◌, ◌||◌}
use Rattle.sip_text.specs.declared.address.Addr.{Addr}
use Rattle.transport.specs.Devices.{one_more}
use Rattle.transport.specs.Wires.{datagram, Grows}
use Rattle.transport.specs.declared.datagram.Datagram.{Datagram}
use Rattle.transport.specs.declared.ear.ReceiveFault.{ReceiveFault}

-- the descriptor is closed (EBADF), or another file's (ENOTSOCK)
abbrev pub is_lost_number : Option ℕ → Bool
is_lost_number None = false
is_lost_number (Some number) = number == 9 || number == 88

abbrev pub is_lost : ReceiveFault → Bool
is_lost fault = is_lost_number fault.number

-- a wire gave the datagram of which the call answers the length and the source. Where nothing came yet, and after a fault, it gave
-- none
abbrev pub GivesInTime : {E : Type 0} → Option (List Datagram) → Option (List Datagram) → List ℕ → Result (Option (ℕ × Addr)) E → Type 0
GivesInTime old new buffer (Ok (Some r)) = Grows old new (datagram r.1 (take r.0 buffer) ∷ [])
GivesInTime old new buffer (Ok None) = Grows old new []
GivesInTime old new buffer (Err fault) = Grows old new []

-- how many of the last receives failed, one after the other; how many did so at most until now; and whether one ever did since the
-- descriptor is no socket any more
pub record Misses : Type 0 where
  pub row : ℕ
  pub most : ℕ
  pub lost : Bool

abbrev pub no_misses : Misses
no_misses = record { row = 0; most = 0; lost = false }

-- the same after one more with this result: a receive that succeeds ends the row, and nothing else is forgotten
abbrev pub misses_after : {T : Type 0} → Result T ReceiveFault → Misses → Misses
misses_after (Ok came) misses = record misses { row = 0 }
misses_after (Err fault) misses = record {
  row = one_more misses.row;
  most = max misses.most (one_more misses.row);
  lost = misses.lost || is_lost fault;
}
