use Rattle.sip_write.proofs.AnswerRead.{answer_again}
use Rattle.sip_write.proofs.laws.an_answer_is_read_again.Goals as goal

pub returns : goal.returns
returns c = answer_again
