use Rattle.commands.proofs.Started.{count_is}
use Rattle.commands.proofs.program.serve_on.Goals as goal

pub run_fitted-served-requires-clause-few : goal.run_fitted-served-requires-clause-few
run_fitted-served-requires-clause-few g c κs within =
    let ready = c.in_ok-plan.field-0 in (count_is ready.plan.choices.numbers.workers ready.plan.workers c.in_ok-plan.ensures.ready.plan.workers).1

pub returns-in-Ok-clause-served : goal.returns-in-Ok-clause-served
returns-in-Ok-clause-served g c = record { plan = c.in_ok-plan.field-0.plan; is_plan = c.in_ok-plan.ensures.ready.plan; as_planned = c.in-Ok.ensures.ran }

pub returns-in-Ok-clause-carried : goal.returns-in-Ok-clause-carried
returns-in-Ok-clause-carried g c =
    let ready = c.in_ok-plan.ensures.ready in record {
      plan = c.end-plan.ensures.plan c.args.words.now ready.rereading;
      sockets = rw (c.end-plan.ensures.sockets) (ready.sockets);
    }
