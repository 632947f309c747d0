use Rattle.resumption.proofs.Forgetting.{forgotten, gone_forgotten}
use Rattle.resumption.proofs.laws.what_nobody_watches_is_forgotten.Goals as goal

pub returns-clause-watched : goal.returns-clause-watched
returns-clause-watched c = forgotten

pub returns-clause-gone : goal.returns-clause-gone
returns-clause-gone c = gone_forgotten
