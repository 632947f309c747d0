use Rattle.service.proofs.Repeats.{each_repeat_is}
use Rattle.service.proofs.laws.each_repeat.Goals as goal

pub returns : goal.returns
returns c = each_repeat_is
