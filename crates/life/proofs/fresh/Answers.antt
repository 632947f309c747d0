use Rattle.life.proofs.Freshness.{fresh_law}
use Rattle.life.proofs.fresh.Goals as goal

pub returns : goal.returns
returns c = fresh_law
