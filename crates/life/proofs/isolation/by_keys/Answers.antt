use Rattle.life.proofs.OwnKeys.{own_keys_law}
use Rattle.life.proofs.isolation.by_keys.Goals as goal

pub returns : goal.returns
returns c = own_keys_law
