use Rattle.keeper.proofs.Same.{IsLeft}
use Rattle.keeper.proofs.comparison.changes_behind.Given as goal

abbrev pub invariant-loop-change : goal.invariant-loop-change
invariant-loop-change l = IsLeft l.front l.all l.change-index l.rest
