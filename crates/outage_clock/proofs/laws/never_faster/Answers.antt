use Rattle.outage_clock.proofs.Sums.{never_faster}
use Rattle.outage_clock.proofs.laws.never_faster.Goals as goal

pub returns : goal.returns
returns c = never_faster
