use Rattle.restarts.proofs.Parts.{part_goes_on}
use Rattle.restarts.proofs.laws.a_part_goes_on.Goals as goal

pub returns : goal.returns
returns c = part_goes_on
