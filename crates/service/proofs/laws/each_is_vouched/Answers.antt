use Rattle.service.proofs.Admitting.{each_vouched}
use Rattle.service.proofs.laws.each_is_vouched.Goals as goal

pub returns : goal.returns
returns c = each_vouched
