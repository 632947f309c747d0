use Rattle.outage_clock.proofs.Sums.{each_outage_loses_at_most}
use Rattle.outage_clock.proofs.laws.each_outage_loses_at_most.Goals as goal

pub returns : goal.returns
returns c = each_outage_loses_at_most
