use Rattle.life.proofs.Notifiers.{one_counter_law}
use Rattle.life.proofs.isolation.one_counter.Goals as goal

pub returns : goal.returns
returns c = one_counter_law
