-- Wires over one socket.
use Rattle.std.specs.Prelude.{◌≡◌, ◌≢◌, ℕ, max, Bool, ◌||◌, [], ◌∷◌, None}
use Rattle.sip_text.specs.declared.address.Addr.{Addr}
use Rattle.transport.specs.Devices.{one_more}
use Rattle.transport.specs.Ears.{Misses, no_misses}
use Rattle.transport.specs.declared.udp.UdpWire.{UdpWire}

-- 127.0.0.1
abbrev pub loopback : ℕ → Addr
loopback port = record { ip = 127 ∷ 0 ∷ 0 ∷ 1 ∷ []; port = port }

abbrev pub misses : UdpWire → Misses
misses w = record { row = w.row; most = w.most; lost = w.is_lost }

-- no call of it has failed
pub record IsUnfailed (w : UdpWire) : Type 0 where
  pub failures : w.failures ≡ 0
  pub misses : misses w ≡ no_misses
  pub unsent : w.send_error ≡ None

-- two wires on one address: the one that was asked for, where port 0 stands for a port of the machine's choice. Neither has
-- failed yet
pub record IsNew (asked : Addr) (first second : UdpWire) : Type 0 where
  pub same : second.local ≡ first.local
  pub ip : first.local.ip ≡ asked.ip
  pub port : asked.port ≢ 0 → first.local.port ≡ asked.port
  pub first_unfailed : IsUnfailed first
  pub second_unfailed : IsUnfailed second

-- a further wire over the socket of this one, that hasn't failed yet
pub record IsFurther (wire further : UdpWire) : Type 0 where
  pub same : further.local ≡ wire.local
  pub unfailed : IsUnfailed further

abbrev pub failed : UdpWire → UdpWire
failed w = record w { failures = one_more w.failures }

-- after a receive in time that failed
abbrev pub missed : Bool → UdpWire → UdpWire
missed lost w = record w {
  failures = one_more w.failures;
  row = one_more w.row;
  most = max w.most (one_more w.row);
  is_lost = w.is_lost || lost;
}

-- after one that didn't
abbrev pub heard : UdpWire → UdpWire
heard w = record w { row = 0 }
