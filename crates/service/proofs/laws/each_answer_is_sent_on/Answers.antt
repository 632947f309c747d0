use Rattle.service.proofs.Replied.{each_sent_on}
use Rattle.service.proofs.laws.each_answer_is_sent_on.Goals as goal

pub returns : goal.returns
returns c = each_sent_on
