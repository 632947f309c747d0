use Rattle.service.specs.Releasing.{waits}
use Rattle.service.proofs.Releasing.{fewer_same, same_fewer}
use Rattle.service.proofs.sending.Waiting.take_up.Goals as goal

pub returns-in_default-into_notify-clause-fewer : goal.returns-in_default-into_notify-clause-fewer
returns-in_default-into_notify-clause-fewer g c =
    let mid = c.watch-watched.new.self.contacts in same_fewer c.args.self.now.contacts mid mid c.watch-watched.ensures.contacts (fewer_same (waits mid))

pub returns-then-not-self-clause-fewer : goal.returns-then-not-self-clause-fewer
returns-then-not-self-clause-fewer g c =
    same_fewer c.args.self.now.contacts c.watch-watched.new.self.contacts c.doubt_where_full.new.self.contacts c.watch-watched.ensures.contacts c.doubt_where_full.ensures.fewer

pub returns-else-is_err-clause-fewer : goal.returns-else-is_err-clause-fewer
returns-else-is_err-clause-fewer g c =
    same_fewer c.args.self.now.contacts c.watch-watched.new.self.contacts c.doubt_where_full.new.self.contacts c.watch-watched.ensures.contacts c.doubt_where_full.ensures.fewer
