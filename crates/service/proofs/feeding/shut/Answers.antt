use Rattle.crew.proofs.Keeping.{close_keeps, is_shut}
use Rattle.service.proofs.feeding.shut.Goals as goal

pub returns-clause-seats : goal.returns-clause-seats
returns-clause-seats g c = close_keeps c.close-told.result c.args.port c.close-told.new.self c.close-told.ensures.ends

pub returns-clause-ends : goal.returns-clause-ends
returns-clause-ends g c = is_shut c.close-told.result c.args.port c.close-told.new.self c.close-told.ensures.ends c.close-told.ensures.left
