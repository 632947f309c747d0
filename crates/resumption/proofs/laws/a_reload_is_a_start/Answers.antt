use Rattle.resumption.proofs.Reloaded.{stay, nobody_notices}
use Rattle.resumption.proofs.laws.a_reload_is_a_start.Goals as goal

pub returns-clause-stay : goal.returns-clause-stay
returns-clause-stay c = stay

pub returns-clause-nobody_notices : goal.returns-clause-nobody_notices
returns-clause-nobody_notices c = nobody_notices
