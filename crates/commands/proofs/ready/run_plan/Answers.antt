use Rattle.commands.proofs.GoneOn.{run_is}
use Rattle.commands.proofs.ready.run_plan.Goals as goal

pub returns-clause-run : goal.returns-clause-run
returns-clause-run c =
    run_is c.args.plan c.in_ok-plan.plan _ _ _ _ _ c.in_ok-told.ensures.names c.in_ok-plan.ensures.told c.in_ok-plan.ensures.same
    c.found_header.ensures c.adopted_from.ensures.adopted

pub returns-clause-plan : goal.returns-clause-plan
returns-clause-plan c = λ words is. c.adopted_from.ensures.plan words (c.in_ok-plan.ensures.plan words is)
