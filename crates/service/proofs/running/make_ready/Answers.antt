use Rattle.service.proofs.Releasing.{none_fewer}
use Rattle.service.proofs.running.make_ready.Goals as goal

pub returns-clause-none_waits : goal.returns-clause-none_waits
returns-clause-none_waits g c = none_fewer _ _ c.begin.ensures.fewer c.in-Ok.ensures.none_waits
