use Rattle.std.proofs.Common.{refl}
use Rattle.admission.proofs.Open.{open_allows, open_judged}
use Rattle.admission.proofs.judging.Admission.open.Goals as goal

pub returns-clause-allows : goal.returns-clause-allows
returns-clause-allows c = open_allows _ (record { anywhere = c.new.ensures.items; any_rate = refl; anyone = refl; any_size = refl; unlimited = refl })

pub returns-clause-stays : goal.returns-clause-stays
returns-clause-stays c = open_judged _ (record { anywhere = c.new.ensures.items; any_rate = refl; anyone = refl; any_size = refl; unlimited = refl })
