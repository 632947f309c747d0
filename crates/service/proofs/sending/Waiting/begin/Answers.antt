use Rattle.service.proofs.Releasing.{same_fewer}
use Rattle.service.proofs.sending.Waiting.begin.Goals as goal

pub returns-clause-fewer : goal.returns-clause-fewer
returns-clause-fewer g c = same_fewer c.args.self.now.contacts c.begin_rows.new.self.contacts c.keep_again.new.self.contacts c.begin_rows.ensures.contacts c.keep_again.ensures.fewer
