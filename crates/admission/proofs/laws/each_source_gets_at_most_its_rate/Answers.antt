use Rattle.admission.proofs.Shares.{at_most_burst_and_rate}
use Rattle.admission.proofs.laws.each_source_gets_at_most_its_rate.Goals as goal

pub returns : goal.returns
returns c = at_most_burst_and_rate
