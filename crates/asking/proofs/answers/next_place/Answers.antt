use Rattle.asking.proofs.LastLine.{one_place}
use Rattle.asking.proofs.answers.next_place.Goals as goal

pub returns-in_default : goal.returns-in_default
returns-in_default c = λ place is. absurd (c.in_default.ensures place is)

pub returns-in_default-text_of : goal.returns-in_default-text_of
returns-in_default-text_of c = λ place is.
    rw (← one_place c.args.answer.now c.in-Some.place.now place c.in-Some.ensures is) c.in_default-text_of.ensures
