use Rattle.admission.proofs.Alone.{none_below_is_refused}
use Rattle.admission.proofs.laws.no_source_below_its_rate_is_refused.Goals as goal

pub returns : goal.returns
returns c = none_below_is_refused
