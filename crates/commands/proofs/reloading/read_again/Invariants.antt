use Rattle.std.specs.Prelude.{IfSome}
use Rattle.plans.specs.Plans.{IsPlan}
use Rattle.commands.proofs.reloading.read_again.Given as goal

abbrev pub invariant-loop : goal.invariant-loop
invariant-loop g l = IfSome l.last (IsPlan l.words)
