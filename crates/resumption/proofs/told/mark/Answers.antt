use Rattle.std.proofs.Common.{ℕ, List, subst}
use Rattle.std.specs.Prelude.{SomeIff}
use Rattle.package.specs.Values.{IsMailChange}
use Rattle.resumption.specs.Told.{mark}
use Rattle.resumption.proofs.told.mark.Goals as goal

pub returns : goal.returns
returns c = subst (λ (n : List ℕ). SomeIff c.new.result (IsMailChange (mark n)) (mark n)) c.in_ok-name.ensures.ok c.new.ensures
