use Rattle.service.proofs.asked.Asked.note_out.Goals as goal

pub returns-in-Answer : goal.returns-in-Answer
returns-in-Answer c = rw c.in-Answer.is (rw c.as_slice.ensures at c.add.ensures.added)
