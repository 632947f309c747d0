use Rattle.service.proofs.Acts.{without_repeats}
use Rattle.service.proofs.laws.without_repeats.Goals as goal

pub returns : goal.returns
returns c = without_repeats
