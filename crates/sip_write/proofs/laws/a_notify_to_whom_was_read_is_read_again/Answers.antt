use Rattle.sip_write.proofs.NoticeRead.{notify_to_read}
use Rattle.sip_write.proofs.laws.a_notify_to_whom_was_read_is_read_again.Goals as goal

pub returns : goal.returns
returns c = notify_to_read
