use Rattle.commands.proofs.Refused.{can_end_well, ended_well}
use Rattle.commands.proofs.program.serve_over.Goals as goal

pub returns-in-Ok-clause-well : goal.returns-in-Ok-clause-well
returns-in-Ok-clause-well g c = λ _.
    let off = c.in-Ok.ensures in can_end_well _ _ _ _ _ (ended_well _ _ _ _ _ _ c.in_ok-served.ensures.served off.no_fault off.closed off.told)
