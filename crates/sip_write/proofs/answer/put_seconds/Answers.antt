use Rattle.sip_write.proofs.Pages.{no_line}
use Rattle.sip_write.proofs.answer.put_seconds.Goals as goal

pub returns-in_default : goal.returns-in_default
returns-in_default c = rw c.in_default.is no_line
