use Rattle.outage_clock.proofs.Sums.{never_falls}
use Rattle.outage_clock.proofs.laws.never_falls.Goals as goal

pub returns : goal.returns
returns c = never_falls
