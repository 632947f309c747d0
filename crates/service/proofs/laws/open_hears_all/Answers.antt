use Rattle.service.proofs.Admitting.{open_all}
use Rattle.service.proofs.laws.open_hears_all.Goals as goal

pub returns : goal.returns
returns c = open_all
