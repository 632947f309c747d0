use Rattle.sip_write.proofs.NotifyRead.{reads_again}
use Rattle.sip_write.proofs.laws.a_notify_is_read_again.Goals as goal

pub returns : goal.returns
returns c = reads_again
