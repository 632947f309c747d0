use Rattle.commands.proofs.ready.plan_with_journal.Goals as goal

pub returns-clause-plan : goal.returns-clause-plan
returns-clause-plan g c = c.in_ok-plan-2.ensures.plan c.args.words.now c.in_ok-plan.ensures.plan

pub returns-clause-run : goal.returns-clause-run
returns-clause-run g c = record { plan = c.in_ok-plan.plan; is_plan = c.in_ok-plan.ensures.plan; is_run = c.in_ok-plan-2.ensures.run }
