use Rattle.digest.proofs.Exclusive.{accepts}
use Rattle.digest.specs.Verdicts.{request_seen}
use Rattle.digest.proofs.guard.Guard.judge.Goals as goal

pub returns-clause-accepts : goal.returns-clause-accepts
returns-clause-accepts c = accepts c.args.self.now (request_seen c.args.asked) c.args.credentials.now c.verdict.result c.verdict.ensures
