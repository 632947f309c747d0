use Rattle.std.proofs.Common.{◌∙◌}
use Rattle.crew.proofs.Keeping.{close_keeps}
use Rattle.examples_crew.proofs.handed.send_and_close.Goals as goal

pub returns-clause-seats : goal.returns-clause-seats
returns-clause-seats g c = let shut = c.close-told in close_keeps shut.result _ shut.new.self shut.ensures.ends ∙ c.send_all.ensures.seats
