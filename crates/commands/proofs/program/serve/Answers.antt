use Rattle.commands.proofs.Refused.{printed, status_came, wants_memory}
use Rattle.commands.proofs.program.serve.Goals as goal

pub returns-in-Some-clause-status : goal.returns-in-Some-clause-status
returns-in-Some-clause-status g c = printed _ _ c.in-Some.ensures.asked c.print_text.ensures.status

pub returns-clause-status : goal.returns-clause-status
returns-clause-status g c =
    let came = c.attempt-came.ensures in status_came c.args.words.now c.attempt-came.result c.exit_status.result came.well came.refused c.exit_status.ensures.status

pub returns-in_default-new-clause-status : goal.returns-in_default-new-clause-status
returns-in_default-new-clause-status g c = wants_memory _ _ c.tell_why.ensures.status
