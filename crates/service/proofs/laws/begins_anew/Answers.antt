use Rattle.service.proofs.Ran.{begins_anew}
use Rattle.service.proofs.laws.begins_anew.Goals as goal

pub returns : goal.returns
returns c = begins_anew
