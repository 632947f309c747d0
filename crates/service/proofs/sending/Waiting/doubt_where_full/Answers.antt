use Rattle.service.specs.Releasing.{waits}
use Rattle.service.proofs.Releasing.{fewer_same}
use Rattle.service.proofs.sending.Waiting.doubt_where_full.Goals as goal

pub returns-then-has_room-clause-fewer : goal.returns-then-has_room-clause-fewer
returns-then-has_room-clause-fewer c = fewer_same (waits c.args.self.now.contacts)

pub returns-else-is_last-clause-fewer : goal.returns-else-is_last-clause-fewer
returns-else-is_last-clause-fewer c = fewer_same (waits c.args.self.now.contacts)
