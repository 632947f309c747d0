use Rattle.service.proofs.lines.keep.Goals as goal

pub returns-in-Answered : goal.returns-in-Answered
returns-in-Answered c = rw c.in-Answered.is c.keep_answer.ensures
