use Rattle.std.proofs.Common.{arith}
use Rattle.restarts.proofs.Parts.{ahead_goes_on}
use Rattle.restarts.proofs.laws.a_leap_goes_on.Goals as goal

pub returns-clause-may : goal.returns-clause-may
returns-clause-may c = ahead_goes_on

pub returns-clause-numbers : goal.returns-clause-numbers
returns-clause-numbers c = λ row lost number few below. omega arith

pub returns-clause-serials : goal.returns-clause-serials
returns-clause-serials c = λ next lost serial few below fits. grind (arith)
