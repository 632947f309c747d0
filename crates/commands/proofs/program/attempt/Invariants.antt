use Rattle.commands.specs.Reloading.{IsCarried}
use Rattle.commands.proofs.program.attempt.Given as goal

abbrev pub invariant-loop : goal.invariant-loop
invariant-loop g l = IsCarried l.words l.carried
