use Rattle.service.specs.Releasing.{waits}
use Rattle.service.proofs.Releasing.{fewer_same}
use Rattle.service.proofs.sending.Waiting.settle_few.Goals as goal

pub returns-else-len-lt-FEW-clause-fewer : goal.returns-else-len-lt-FEW-clause-fewer
returns-else-len-lt-FEW-clause-fewer g c = fewer_same (waits c.args.self.now.contacts)
