use Rattle.service.specs.Releasing.{waits}
use Rattle.service.proofs.Releasing.{fewer_same}
use Rattle.service.proofs.sending.Waiting.has_room.Goals as goal

pub returns-then-sent-room-clause-fewer : goal.returns-then-sent-room-clause-fewer
returns-then-sent-room-clause-fewer g c = fewer_same (waits c.args.self.now.contacts)
