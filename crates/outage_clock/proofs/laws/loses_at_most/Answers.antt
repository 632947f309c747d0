use Rattle.outage_clock.proofs.Sums.{loses_at_most}
use Rattle.outage_clock.proofs.laws.loses_at_most.Goals as goal

pub returns : goal.returns
returns c = loses_at_most
