use Rattle.sip_write.proofs.Pages.{no_line}
use Rattle.sip_write.proofs.answer.put_refer_sub.Goals as goal

pub returns-else-without_subscription : goal.returns-else-without_subscription
returns-else-without_subscription c = rw c.if-without_subscription.false no_line
