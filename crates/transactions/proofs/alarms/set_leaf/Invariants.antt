use Rattle.std.proofs.Common.{◌≡◌, ℕ, ◌+◌, ◌<◌, ◌/◌, length, if◌then◌else◌}
use Rattle.std.specs.Prelude.{◌==◌}
use Rattle.transactions.specs.Tournament.{leaf}
use Rattle.transactions.proofs.Tournaments.{IsWonBut}
use Rattle.transactions.proofs.alarms.set_leaf.Given as goal

abbrev pub invariant-loop-node : goal.invariant-loop-node
invariant-loop-node l = record {
  size : length l.nodes ≡ l.places + l.places;
  some : 0 < l.node;
  within : l.node < l.places + l.places;
  won : IsWonBut l.places (l.node / 2) l.nodes;
  leaves : (p : ℕ) → p < l.places → leaf l.places l.nodes p ≡ (if l.place == p then l.fn.alarm else leaf l.places l.fn.nodes p);
}

abbrev pub decreases-loop-node : goal.decreases-loop-node
decreases-loop-node l = l.node
