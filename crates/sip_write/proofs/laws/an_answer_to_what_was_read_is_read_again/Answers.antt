use Rattle.sip_write.proofs.ReadValues.{answer_to_read}
use Rattle.sip_write.proofs.laws.an_answer_to_what_was_read_is_read_again.Goals as goal

pub returns : goal.returns
returns c = answer_to_read
