use Rattle.service.proofs.Repeats.{each_try_is}
use Rattle.service.proofs.laws.each_try.Goals as goal

pub returns : goal.returns
returns c = each_try_is
