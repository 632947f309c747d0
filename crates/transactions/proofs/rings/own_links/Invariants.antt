use Rattle.std.proofs.Common.{◌≡◌, ℕ, ◌<◌, length}
use Rattle.transactions.specs.Rings.{link}
use Rattle.transactions.proofs.rings.own_links.Given as goal

abbrev pub invariant-loop-node : goal.invariant-loop-node
invariant-loop-node l = record {
  many : length l.links.items ≡ l.node;
  own : (n : ℕ) → n < l.node → link l.links.items n ≡ record { older = n; newer = n };
}
