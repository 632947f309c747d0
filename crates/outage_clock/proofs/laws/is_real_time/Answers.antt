use Rattle.outage_clock.proofs.Sums.{is_real_time}
use Rattle.outage_clock.proofs.laws.is_real_time.Goals as goal

pub returns : goal.returns
returns c = is_real_time
