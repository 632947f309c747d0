use Rattle.std.proofs.Common.{◌≡◌, ℕ, ◌+◌, ◌<◌, length, get_or, vec_len}
use Rattle.std.specs.Vec.Iter.{into_iter_items, into_iter_len}
use Rattle.crew.specs.Ports.{PortSeats}
use Rattle.crew.specs.AtHome.{SentHome}
use Rattle.crew.specs.Settled.{HaveCome}
use Rattle.crew.proofs.joining.settle_all.Given as goal

abbrev pub invariant-loop-port : goal.invariant-loop-port
invariant-loop-port l = let rest = l.port-iterator in let done = length l.yielded in record {
  count : done + into_iter_len rest ≡ vec_len l.fn.ports;
  left : (k : ℕ) (p : PortSeats) → k < into_iter_len rest → get_or (into_iter_items rest) k p ≡ get_or l.fn.ports.items (done + k) p;
  same : l.reports ≡ l.fn.reports;
  came : (k : ℕ) (p : PortSeats) → k < done → HaveCome l.fn.reports (get_or l.fn.ports.items k p).seats (length l.fn.reports);
  home : (k : ℕ) (p : PortSeats) → k < done → SentHome (get_or l.fn.ports.items k p).seats;
}
